-- `tick::deliver_all` meets its contract. The loop's invariant: the servers passed have what arrives, the others are as they were.
use Rattle.cluster.specs.Tick.{feed_of}
use Rattle.cluster.proofs.ServeLaws.{Serving}
use Rattle.cluster.proofs.tick.deliver_all.Given as goal

abbrev pub invariant-loop-b : goal.invariant-loop-b
invariant-loop-b l = Serving (feed_of l.plan l.initial.work l.feed) l.ends l.values l.initial.after l.initial.sets l.after l.sets l.work l.b
