-- `clear` meets its contract.
use native.Mathlib.Omega.{arith}
use Rattle.requests.proofs.Requesting.{taken}
use Rattle.requests.proofs.clear.Goals as goal

pub returns : goal.returns
returns c = taken _ _ c.args.t _ (omega (arith, c.word-from.ensures.0)) c.zero.ensures
