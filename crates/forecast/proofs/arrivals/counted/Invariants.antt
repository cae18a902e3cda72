-- `counted` meets its contract: after e turns the table has the arrivals of the first e messages.
use Rattle.forecast.specs.Steps.{arrival_at, Arrived}
use Rattle.forecast.proofs.arrivals.counted.Given as goal

abbrev pub invariant-loop-e : goal.invariant-loop-e
invariant-loop-e l = Arrived (arrival_at l.part.width l.part.bytes.now l.part.offset l.plan l.links) l.e l.r
