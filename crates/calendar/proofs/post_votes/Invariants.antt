-- `post_votes` meets its contract. The loop's invariant: the pairs kept are posted to the servers before b.
use Rattle.calendar.specs.View.{Posted}
use Rattle.calendar.specs.Posts.{to_first, among}
use Rattle.calendar.proofs.post_votes.Given as goal

abbrev pub invariant-loop-b : goal.invariant-loop-b
invariant-loop-b l = Posted l.initial.work l.work (to_first l.sending l.b (among l.kept))
