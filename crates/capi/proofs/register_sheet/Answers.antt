-- `register_sheet` meets its contract: the code of what the sheet returns, and the page that it leaves.
use mathlib.Core.Path.{ap}
use Rattle.capi.specs.Exported.{written_by}
use Rattle.capi.proofs.register_sheet.Goals as goal

pub returns : goal.returns
returns c = rw c.of_outcome.ensures (ap written_by c.sheet.ensures)
