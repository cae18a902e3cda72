-- `ask_all` meets its contract. The loop's invariant: the READs of the reads passed are under way.
use Rattle.requests.proofs.AskingLaws.{between_none, between_more}
use Rattle.requests.proofs.asking.ask_all.Goals as goal

pub loop-i-init : goal.loop-i-init
loop-i-init c = between_none _ _ _ _ _ _ _

pub loop-i-preserved : goal.loop-i-preserved
loop-i-preserved c = let l = c.loop-i in
    let a = c.args in
    between_more _ a.links a.links.n a.t a.by.now a.from _ _ _ l.i l.auto.i l.invariant (rw c.from.ensures at c.ask.ensures)
