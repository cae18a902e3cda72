-- `put` meets its contract: as many figures are copied as there are, and as the list has room for.
use native.Mathlib.Omega.{arith}
use Rattle.capi_forecast.proofs.Over.{fitting}
use Rattle.capi_forecast.proofs.put.Goals as goal

pub returns : goal.returns
returns c = rw c.copy_from_slice.ensures.after (fitting c.args.figures.now c.args.numbers.now c.min-count.result (omega (arith, c.told-figures, c.min-count.ensures)))
