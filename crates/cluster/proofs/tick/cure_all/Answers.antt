-- `tick::cure_all` meets its contract. The loop's invariant: the cures of the servers before b have ended.
use mathlib.Core.Path.{◌≡◌, sym, ◌∙◌}
use native.Mathlib.Omega.{arith}
use Rattle.cluster.proofs.StageRuns.{curing_more, curing_same, curing_all}
use Rattle.cluster.proofs.tick.cure_all.Goals as goal

pub loop-b-preserved : goal.loop-b-preserved
loop-b-preserved c = let l = c.loop-b in
    elim c.if-is_cured_at.branch [
      | goal.then-is_cured_at w ↦ rw (w.work-is, w.after-is) (curing_more _ _ _ _ _ _ _ _ _ _ l.b l.invariant (omega arith) (sym c.is_cured_at.ensures ∙ w.if-is_cured_at.true)
          w.cure_end.result w.cure_end.ensures w.sender.result w.sender.ensures _ w.reply.ensures)
      | goal.else-is_cured_at w ↦ rw (w.work-is, w.after-is) (curing_same _ _ _ _ _ _ _ _ _ _ l.b l.invariant (sym c.is_cured_at.ensures ∙ w.if-is_cured_at.false))
    ]

pub returns : goal.returns
returns c = let l = c.loop-b in
    let e : l.b ≡ c.args.feed.rules.n = omega arith in
    curing_all _ _ _ _ _ _ _ _ _ _ (rw e at l.invariant)
