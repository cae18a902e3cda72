-- `register_play` meets its contract: the code of what Play returns, and the bytes that it leaves.
use mathlib.Core.Path.{ap}
use Rattle.capi.specs.Exported.{handed_by}
use Rattle.capi.proofs.register_play.Goals as goal

pub returns : goal.returns
returns c = rw c.of_outcome.ensures (ap handed_by c.play.ensures.work_after)
