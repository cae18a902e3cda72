-- `tick::deliver` meets its contract: a faulty server loses what arrives, another one does stage 1, votes and replies.
use mathlib.Core.Path.{sym, ◌∙◌}
use Rattle.cluster.proofs.ServeLaws.{reached_lost, reached_now, reached_unread}
use Rattle.cluster.proofs.tick.deliver.Goals as goal

pub returns-then-is_faulty : goal.returns-then-is_faulty
returns-then-is_faulty c = reached_lost _ _ _ c.args.turn c.args.from c.args.s _ _ (sym c.is_faulty.ensures ∙ c.if-is_faulty.true)

pub returns : goal.returns
returns c = let a = c.args in
    let alive = sym c.is_faulty.ensures ∙ c.if-is_faulty.false in
    elim c.if-done-ne0.branch [
      | goal.then-done-ne0 w ↦ rw w.work-is (reached_now _ _ _ a.turn a.from a.s _ _ c.deliver-done.result _ _ alive c.deliver-done.ensures c.vote.ensures _ w.reply.ensures)
      | goal.else-done-ne0 w ↦ rw w.work-is (reached_unread _ _ _ a.turn a.from a.s _ _ c.deliver-done.result _ _ alive c.deliver-done.ensures c.vote.ensures w.if-done-ne0.false)
    ]
