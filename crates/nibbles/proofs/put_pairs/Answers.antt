-- `put_pairs` meets its contract.
use mathlib.Core.Path.{◌≡◌}
use Prim.Native.Nat.{◌+◌, ◌-◌, ◌%◌}
use native.Mathlib.Omega.{arith}
use Rattle.nibbles.proofs.Parts.{part_ends}
use Rattle.nibbles.proofs.put_pairs.Goals as goal

pub returns : goal.returns
returns c = let a = c.args in
    let e : a.pairs - 1 + 1 ≡ a.pairs = omega arith in
    part_ends (a.at % 8) a.pairs (omega arith) (omega arith)
    c.put_pair.ensures
    c.put_between.ensures
    (rw e at c.put_pair-2.ensures)
