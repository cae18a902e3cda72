-- `tick::cure_all` meets its contract. The loop's invariant: the cures of the servers before b have ended.
use Rattle.cluster.proofs.StageRuns.{Curing}
use Rattle.cluster.proofs.tick.cure_all.Given as goal

abbrev pub invariant-loop-b : goal.invariant-loop-b
invariant-loop-b l = Curing l.plan l.feed.links l.rules l.feed.m l.t l.ends l.initial.after l.initial.work l.after l.work l.b
