-- `Server::wipe` meets its contract.
use Rattle.serving.proofs.StageLaws.{zero_set, blank_law}
use Rattle.tallies.proofs.TallyLaws.{reset_others, reset_fresh, reset_recent}
use Rattle.serving.proofs.Server.wipe.Goals as goal

pub returns : goal.returns
returns c = let none = c.none-self.ensures in
    let A = rw c.of_server-at.ensures.0 at c.empty.ensures in
    let B = rw c.of_server-at.ensures.0 at c.empty-2.ensures in
    record {
      others = reset_others _ _ _ c.args.b c.requires A B;
      blank = λ m h. blank_law _ _ _ _ _ none.0 zero_set (reset_fresh _ _ _ c.args.b c.requires A B m h) (reset_recent _ _ _ c.args.b c.requires A B m h);
      valued = λ values. none.1 values;
    }
