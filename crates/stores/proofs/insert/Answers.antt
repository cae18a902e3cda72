-- `store::insert` meets its contract. The loop's invariant: every place before i is higher than the pair's.
use mathlib.Core.Path.{◌≡◌}
use native.Mathlib.Omega.{arith}
use Rattle.plan.specs.Packed.{store_depth}
use Rattle.stores.proofs.StoreLaws.{no_empty, put_lower, put_same, put_none, put_valued}
use Rattle.stores.proofs.insert.Goals as goal

pub returns-then-here-mine : goal.returns-then-here-mine
returns-then-here-mine c = let l = c.loop-i in
    (put_same c.args.p (no_empty c.args.p c.requires) store_depth c.args.kept (omega arith) l.i c.loop-i-test.true l.invariant (rw (c.place-here.ensures, c.place-mine.ensures) at c.if-here-mine.true), λ values v f. v)

pub returns-then-here-mine-2 : goal.returns-then-here-mine-2
returns-then-here-mine-2 c = let l = c.loop-i in (
  put_lower c.args.p (no_empty c.args.p c.requires) store_depth c.args.kept (omega arith) l.i c.loop-i-test.true l.invariant (rw (c.place-here.ensures, c.place-mine.ensures) at c.if-here-mine-2.true) _ c.put_at.ensures,
  λ values. put_valued store_depth l.i c.args.p c.args.kept _ values c.put_at.ensures,
)

pub returns : goal.returns
returns c = let l = c.loop-i in
    let e : l.i ≡ store_depth = omega (arith, l.auto.i-end, c.loop-i-test.false) in
    (put_none c.args.p (no_empty c.args.p c.requires) store_depth c.args.kept (omega arith) (rw e at l.invariant), λ values v f. v)
