-- `tick::hear_all` meets its contract. The loop's invariant: the readers before x have noted what arrives, and their rows are empty.
use Rattle.cluster.proofs.HearLaws.{Hearing}
use Rattle.cluster.proofs.tick.hear_all.Given as goal

abbrev pub invariant-loop-x : goal.invariant-loop-x
invariant-loop-x l = Hearing l.initial.work l.work l.initial.sets l.sets l.t l.x
