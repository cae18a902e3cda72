-- `put_pair` meets its contract: nothing without room, else four stores, which are `stored_at` of four bytes.
use mathlib.Core.Path.{◌≡◌, refl}
use Prim.Native.Nat.{◌*◌, ◌/◌, ◌%◌}
use native.Mathlib.Omega.{arith}
use lib.ListN.{get_or, length-set}
use borrow.Author.Tests.{lt-ltb, le-ltb}
use Rattle.codes.specs.Codes.{pair_size, pair_bytes}
use Rattle.codes.proofs.PairLaws.{stored}
use Rattle.codes.proofs.pairs.put_pair.Goals as goal

pub returns-then-out-at : goal.returns-then-out-at
returns-then-out-at c = (refl, rw (lt-ltb _ _ c.if-out-at.true))

pub bounds-out-at-2 : goal.bounds-out-at-2
bounds-out-at-2 c = simp length-set (omega arith)

pub bounds-out-at-3 : goal.bounds-out-at-3
bounds-out-at-3 c = simp length-set (omega arith)

pub bounds-out-at-4 : goal.bounds-out-at-4
bounds-out-at-4 c = simp length-set (omega arith)

pub returns : goal.returns
unfolding pair_bytes
returns c = let a = c.args in
    let high : get_or c.to_be_bytes.result 1 0 ≡ a.p.value / 256 / 256 = rw c.to_be_bytes.ensures (omega arith) in
    let mid : get_or c.to_be_bytes.result 2 0 ≡ a.p.value / 256 % 256 = rw c.to_be_bytes.ensures (omega arith) in
    let least : get_or c.to_be_bytes.result 3 0 ≡ a.p.value % 256 = rw c.to_be_bytes.ensures (omega arith) in (
      simp length-set,
      rw (le-ltb _ _ c.if-out-at.false)
          (stored a.out.now (pair_size * a.i) _ _ _ a.p.number _ _ _ (omega (arith, high)) (omega (arith, mid)) (omega (arith, least))),
    )
