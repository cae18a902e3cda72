-- `put_failure` meets its contract.
use Rattle.decimal.proofs.Stores.{stored_then}
use Rattle.arguments.specs.Arguments.{failure_line}
use Rattle.arguments.proofs.put_failure.Goals as goal

pub returns : goal.returns
unfolding failure_line
returns c = stored_then c.put_all-at.ensures c.put_shown.ensures
