-- `post_all` meets its contract. The loop's invariant: the pairs of the places before this one, none of them empty, are in the cells; the span is widened before.
use mathlib.Core.Path.{◌≡◌}
use Prim.Native.Nat.{◌<◌, ◌≤◌}
use Rattle.calendar.specs.Layout.{calendar_size}
use native.Mathlib.Omega.{arith}
use lib.ListN.{length}
use Rattle.calendar.proofs.Posting.{added, widened_length, widened_posted}
use Rattle.calendar.proofs.Stores.{full_more, kept_first, kept_turn, kept_skip, kept_stop}
use Rattle.calendar.proofs.post_all.Goals.{then-j-lt-PLACES, else-j-lt-PLACES}
use Rattle.calendar.proofs.post_all.Goals as goal

pub loop-pair-init : goal.loop-pair-init
loop-pair-init c = (omega arith, λ q h. absurd (omega arith), kept_first c.args.kept c.args.row c.args.i _)

pub returns-then-pair : goal.returns-then-pair
returns-then-pair c = let l = c.loop-pair in
    let ps = c.args.kept in
    widened_posted c.args.work.now _ c.args.row c.args.span.low c.args.span.high c.args.i _ c.requires.0 c.requires.2 c.requires.3
    (rw c.widen.ensures at (kept_stop ps l.pair-index (length ps) l.invariant.1 l.invariant.0 c.if-pair.true _ _ _ _ l.invariant.2))

pub loop-pair-preserved : goal.loop-pair-preserved
unfolding added
loop-pair-preserved c = let ps = c.args.kept in
    let l = c.loop-pair in
    let k = c.if-pair.false in
    let t : l.pair-index < length ps = omega (arith, c.loop-pair-test.true) in
    let e = c.from-j.ensures in
    let size : calendar_size ≤ length l.work = rw (l.invariant.2.rest.size, c.widen.ensures, widened_length c.args.work.now c.args.row c.args.span.low c.args.span.high) c.requires.2 in (
      omega arith,
      full_more l.pair-index ps l.invariant.1 k,
      elim c.if-j-lt-PLACES.branch [
        | then-j-lt-PLACES w ↦ rw (w.work-is, w.add.ensures, w.cell.ensures.0, e)
            (kept_turn ps l.pair-index l.invariant.1 t k c.args.row c.args.i _ _ c.requires.0 size (rw e at w.if-j-lt-PLACES.true) l.invariant.2)
        | else-j-lt-PLACES w ↦ rw w.work-is (kept_skip ps l.pair-index l.invariant.1 t k c.args.row c.args.i _ _ (rw e at w.if-j-lt-PLACES.false) l.invariant.2)
      ],
    )

pub returns : goal.returns
returns c = let l = c.loop-pair in
    let e : l.pair-index ≡ length c.args.kept = omega (arith, l.invariant.0) in
    widened_posted c.args.work.now _ c.args.row c.args.span.low c.args.span.high c.args.i _ c.requires.0 c.requires.2 c.requires.3
    (rw c.widen.ensures at (rw e at l.invariant.2))
