-- `clear` meets its contract. The loop's invariant: the cells from the lowest pair to before j are emptied.
use native.Mathlib.Omega.{arith}
use mathlib.Core.Path.{◌≡◌}
use Prim.Native.Nat.{max}
use Rattle.calendar.specs.Layout.{low_of, high_of}
use Rattle.calendar.proofs.Clearing.{emptied_more, cleared}
use Rattle.calendar.proofs.clear.Goals as goal

pub loop-j-preserved : goal.loop-j-preserved
loop-j-preserved c = let l = c.loop-j in
    let e = c.high-j-end.ensures.0 in
    let t = c.loop-j-test.true in (
      omega arith,
      omega (arith, e, t),
      rw (c.put.ensures, c.cell.ensures.0)
          (emptied_more _ _ _ _ l.j c.requires.0 (omega (arith, e, t, c.requires.1)) l.invariant.0 (omega (arith, l.invariant.2.rest.size, c.requires.2)) l.invariant.2),
    )

pub returns : goal.returns
returns c = let l = c.loop-j in
    let e : l.j ≡ max (low_of c.args.work.now c.args.row) (high_of c.args.work.now c.args.row) = omega (arith, c.high-j-end.ensures.0, c.loop-j-test.false, l.invariant.1) in
    rw c.put-2.ensures (cleared _ _ _ c.requires.0 (omega (arith, l.invariant.2.rest.size, c.requires.2)) (rw e at l.invariant.2))
