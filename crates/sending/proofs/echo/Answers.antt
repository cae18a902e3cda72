-- `sending::echo` meets its contract: a vote for each pair kept, to every other server.
use Rattle.sending.proofs.SendLaws.{echo_sent}
use Rattle.sending.proofs.echo.Goals as goal

pub returns : goal.returns
returns c = let a = c.args in
    echo_sent _ a.from _ c.to_servers.ensures a.kept _ _ c.post_votes.ensures
