-- `post` meets its contract. The loop's invariant: the request reaches the servers before b.
use native.Mathlib.Omega.{arith}
use Rattle.requests.proofs.Requesting.{asked_more, reaching}
use Rattle.requests.proofs.post.Goals as goal

pub loop-b-preserved : goal.loop-b-preserved
unfolding reaching
loop-b-preserved c = let l = c.loop-b in
    rw (c.add.ensures, c.word.ensures.0, c.arrival.ensures.0)
    (asked_more c.args.sending c.args.p c.requires.1 _ _ l.b (omega (arith, l.invariant.outside.rest.size, c.requires.2)) l.invariant)
