-- `answer_bytes` meets its contract.
use mathlib.Core.Path.{◌∙◌, ap}
use native.Mathlib.Omega.{arith}
use Rattle.answers.specs.Answers.{answer_size}
use Rattle.vectors.proofs.sizes.answer_bytes.Goals as goal

pub returns : goal.returns
returns c = (omega (arith, c.size.ensures, c.width.ensures.1), c.size.ensures ∙ ap answer_size c.width.ensures.0)
