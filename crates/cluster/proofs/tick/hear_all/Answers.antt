-- `tick::hear_all` meets its contract. The loop's invariant: the readers before x have noted what arrives, and their rows are empty.
use mathlib.Core.Path.{◌≡◌, sym, ◌∙◌}
use native.Mathlib.Omega.{arith}
use Rattle.limits.specs.Limits.{most_readers}
use Rattle.cluster.proofs.HearLaws.{hearing_none, hearing_more, hearing_same, hearing_all}
use Rattle.cluster.proofs.tick.hear_all.Goals as goal

pub loop-x-init : goal.loop-x-init
loop-x-init c = hearing_none _ _ _ c.requires.1

pub loop-x-preserved : goal.loop-x-preserved
loop-x-preserved c = let l = c.loop-x in
    let h = c.loop-x-test.true in
    let e = c.row-row.ensures.0 in
    elim c.if-high-ne0.branch [
      | goal.then-high-ne0 w ↦ rw (w.work-is, w.sets-is) (hearing_more _ _ _ _ _ l.x h l.invariant _ _ (rw (w.of_reader.ensures.0, e) at w.join_row.ensures) (rw e at w.clear.ensures))
      | goal.else-high-ne0 w ↦ rw (w.work-is, w.sets-is) (hearing_same _ _ _ _ _ l.x h l.invariant (rw e at (sym c.high.ensures.0 ∙ w.if-high-ne0.false)))
    ]

pub returns : goal.returns
returns c = let l = c.loop-x in
    let e : l.x ≡ most_readers = omega arith in
    hearing_all _ _ _ _ _ (rw e at l.invariant)
