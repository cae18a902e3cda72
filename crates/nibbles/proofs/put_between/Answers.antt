-- `put_between` meets its contract: the loop has written the bytes before byte k, and pair k - 1 is at hand.
use mathlib.Core.Path.{◌≡◌}
use Prim.Native.Nat.{◌+◌, ◌*◌, ◌-◌, ◌/◌, ◌%◌, ◌^◌}
use native.Mathlib.Omega.{arith}
use borrow.Author.Rules.{rules}
use Rattle.bits.proofs.Written.{wrote_byte}
use Rattle.nibbles.specs.Nibbles.{pair_limit, pair_of}
use Rattle.nibbles.proofs.Parts.{part_of, part_then}
use Rattle.nibbles.proofs.Numbers.{between_at}
use Rattle.nibbles.proofs.put_between.Goals as goal

pub loop-k-preserved : goal.loop-k-preserved
loop-k-preserved c = let a = c.args in
    let l = c.loop-k in
    let xs = a.numbers.now in
    let off = a.at % 8 in
    let x = (pair_of xs (l.k - 1) * pair_limit + pair_of xs l.k) / 2 ^ off % pair_limit in
    let byte = wrote_byte l.out (a.at / 8 + l.k) x (omega arith) in
    let same : l.k + 1 - 1 ≡ l.k = omega arith in (
      search rules,
      search rules,
      rw same c.pair-next.ensures.0,
      rw (l.invariant.2, c.pair-next.ensures.0)
          (part_then {lo = 8 * l.k - off} (omega arith) (omega arith) (omega arith) l.invariant.3
          (part_of 8 x (omega arith) (omega arith) byte (between_at xs l.k off (omega arith) (omega arith) (omega arith)))),
    )
