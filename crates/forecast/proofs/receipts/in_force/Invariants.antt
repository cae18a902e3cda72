-- `in_force` meets its contract: after t turns the table has the placements of the first t ticks.
use Rattle.plan.specs.{Shape.shape}
use Rattle.forecast.specs.Steps.{InForce}
use Rattle.forecast.proofs.receipts.in_force.Given as goal

abbrev pub invariant-loop-t : goal.invariant-loop-t
invariant-loop-t l = InForce l.h.width l.plan (shape l.h) l.t l.r
