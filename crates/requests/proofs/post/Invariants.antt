-- `post` meets its contract. The loop's invariant: the request reaches the servers before b.
use Rattle.requests.specs.Requests.{asked_first, Asked}
use Rattle.requests.proofs.post.Given as goal

abbrev pub invariant-loop-b : goal.invariant-loop-b
invariant-loop-b l = Asked l.initial.work l.work (asked_first l.sending l.p l.b)
