-- `tick::echo_all` meets its contract. The loop's invariant: the servers before b have echoed.
use Rattle.cluster.proofs.StageRuns.{Echoing}
use Rattle.cluster.proofs.tick.echo_all.Given as goal

abbrev pub invariant-loop-b : goal.invariant-loop-b
invariant-loop-b l = Echoing l.plan l.feed.links l.feed.rules l.feed.t l.feed.movement l.servers l.initial.work l.work l.b
