-- `begin` meets its contract.
use mathlib.Core.Path.{refl}
use Rattle.requests.proofs.Requesting.{behind_trans, past_behind, outside_empty}
use Rattle.player.proofs.begin.Goals as goal

pub returns : goal.returns
returns c = let calendar = c.start.ensures in
    let requests = c.start-2.ensures in
    record {
      kept = behind_trans _ _ _ (past_behind _ _ calendar.0) requests.0.rest;
      empty = outside_empty _ _ requests.0 calendar.1;
      unasked = requests.1;
      first = refl;
      started = c.start-3.ensures;
    }
