-- `register_carry_back` meets its contract: the code of what carrying back returns, and the bytes that it leaves.
use mathlib.Core.Path.{ap}
use Rattle.capi.specs.Exported.{written_by}
use Rattle.capi.proofs.register_carry_back.Goals as goal

pub returns : goal.returns
returns c = rw c.of_outcome.ensures (ap written_by c.carry_back.ensures)
