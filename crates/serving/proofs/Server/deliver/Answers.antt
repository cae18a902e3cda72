-- `Server::deliver` meets its contract.
use Rattle.serving.proofs.StageLaws.{replied_law}
use Rattle.serving.proofs.VoteLaws.{delivered_stage}
use Rattle.serving.proofs.Server.deliver.Goals as goal

pub returns : goal.returns
returns c = let a = c.args in
    let w = c.take_write-written.ensures in
    let v = c.vote-server.ensures in
    record {
      others = v.others;
      stage = delivered_stage a.work.now a.values.now a.turn a.self c.take_write-written.result c.vote-server.result a.sets.now c.vote-server.new.sets c.requires.0
          c.requires.2 w.0 v c.replied-readers.result (replied_law c.replied-readers.result a.turn.asks _ _ _ _ _ c.replied-readers.ensures c.is_correct.ensures c.is_same.ensures);
      valued = λ x. v.valued (w.1 x);
    }
