-- `Sending::of` meets its contract.
use mathlib.Core.Path.{refl}
use Rattle.tables.proofs.Sendings.{sent}
use Rattle.tables.proofs.sending.Sending.of.Goals as goal

pub returns : goal.returns
returns c = let a = c.args in sent a.plan.now a.at a.n a.tick a.sender _ refl refl refl c.nibbles.ensures
