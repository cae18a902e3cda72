-- `put_odd` meets its contract.
use mathlib.Core.Path.{◌≡◌}
use Prim.Native.Nat.{◌*◌, ◌-◌, ◌/◌}
use native.Mathlib.Omega.{arith}
use lib.ListN.{length, get_or}
use Rattle.nibbles.specs.Nibbles.{width, pair_width}
use Rattle.nibbles.proofs.Parts.{part_of}
use Rattle.nibbles.proofs.Numbers.{number_at}
use Rattle.nibbles.proofs.put_odd.Goals as goal

pub returns-then-n-eq1 : goal.returns-then-n-eq1
returns-then-n-eq1 c = let a = c.args in
    let xs = a.numbers.now in
    let j = length xs - 1 in
    let e : pair_width * (length xs / 2) ≡ width * j = omega arith in
    part_of width (get_or xs j 0) (omega arith) (omega arith) (rw c.from-last.ensures at c.put.ensures) (rw e (number_at xs j (omega arith)))
