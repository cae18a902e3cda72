-- `sending::reply` meets its contract. The loop's invariant: the replies to the readers below y are posted.
use Rattle.calendar.specs.View.{Posted}
use Rattle.sending.proofs.SendLaws.{replies_below}
use Rattle.sending.proofs.reply.Given as goal

abbrev pub invariant-loop-y : goal.invariant-loop-y
invariant-loop-y l = Posted l.initial.work l.work (replies_below l.plan l.from l.ends l.readers l.kept l.y)
