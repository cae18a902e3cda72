-- `forgeries::stands_alone` meets its contract: the table stands for the reads of the plan.
use Rattle.plan.specs.Steps.{forgery}
use Rattle.plan.specs.Shape.{shape}
use Rattle.forgeries.proofs.Forging.{received}
use Rattle.forgeries.proofs.stands_alone.Goals as goal

pub returns-then-is_sent : goal.returns-then-is_sent
returns-then-is_sent c = let a = c.args in
    let q = c.requires in
    rw (← c.if-is_sent.ensures, c.is_received.ensures, received a.h.width a.plan.now (shape a.h) q.1 a.table.now (forgery a.h.width a.g) q.3 q.4)
