-- `size` meets its contract.
use mathlib.Core.Path.{◌∙◌, ap}
use Rattle.bits.specs.Fill.{bytes_for}
use Rattle.answers.proofs.size.Goals as goal

pub returns : goal.returns
returns c = c.bytes_for.ensures ∙ ap bytes_for c.bits.ensures
