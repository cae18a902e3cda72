-- `sending::vote` meets its contract: one to every other server, and no vote for a pair that is not known.
use Rattle.sending.proofs.SendLaws.{votes_nobody, votes_sent_lem}
use Rattle.sending.proofs.vote.Goals as goal

pub returns-then-from-lt-PLACES : goal.returns-then-from-lt-PLACES
returns-then-from-lt-PLACES c = votes_sent_lem _ c.args.from _ c.to_servers.ensures _ _ _ c.post_vote.ensures

pub returns-else-from-lt-PLACES : goal.returns-else-from-lt-PLACES
returns-else-from-lt-PLACES c = let a = c.args in votes_nobody _ a.from _ a.wrote (rw c.from.ensures at c.if-from-lt-PLACES.false)
