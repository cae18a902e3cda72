-- `tick::move_all` meets its contract. The loop's invariant: the movement has met the servers before b, in their new voting period.
use Rattle.cluster.proofs.StageRuns.{Moving}
use Rattle.cluster.proofs.tick.move_all.Given as goal

abbrev pub invariant-loop-b : goal.invariant-loop-b
invariant-loop-b l = Moving l.feed.m l.feed.t l.feed.movement l.initial.after l.after l.initial.sets l.sets l.b
