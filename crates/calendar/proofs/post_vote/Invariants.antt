-- `post_vote` meets its contract. The loop's invariant: the vote is posted to the servers before b.
use lib.Dec.{eqb}
use Rattle.calendar.specs.View.{Posted}
use Rattle.calendar.specs.Posts.{to_first}
use Rattle.calendar.proofs.post_vote.Given as goal

abbrev pub invariant-loop-b : goal.invariant-loop-b
invariant-loop-b l = Posted l.initial.work l.work (to_first l.sending l.b (λ y. eqb y l.j))
