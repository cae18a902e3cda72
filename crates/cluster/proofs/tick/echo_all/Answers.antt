-- `tick::echo_all` meets its contract. The loop's invariant: the servers before b have echoed.
use mathlib.Core.Path.{◌≡◌, sym, ◌∙◌}
use native.Mathlib.Omega.{arith}
use Rattle.cluster.proofs.StageRuns.{echoing_more, echoing_same}
use Rattle.cluster.proofs.tick.echo_all.Goals as goal

pub loop-b-preserved : goal.loop-b-preserved
loop-b-preserved c = let l = c.loop-b in
    elim c.if-is_correct.branch [
      | goal.then-is_correct w ↦ rw w.work-is (echoing_more _ _ _ _ _ _ _ _ l.b l.invariant c.if-is_none.ensures (sym c.is_correct.ensures ∙ w.if-is_correct.true) w.sender.result w.sender.ensures _ w.echo.ensures)
      | goal.else-is_correct w ↦ rw w.work-is (echoing_same _ _ _ _ _ _ _ _ l.b l.invariant (sym c.is_correct.ensures ∙ w.if-is_correct.false))
    ]

pub returns : goal.returns
returns c = let l = c.loop-b in
    let e : l.b ≡ c.args.feed.rules.n = omega arith in
    rw e at l.invariant.posted
