-- `serve` meets its contract: each function says what it used.
use mathlib.Core.Path.{◌∙◌, sym}
use Rattle.console.proofs.serve.Goals as goal

pub returns-in-Argument : goal.returns-in-Argument
returns-in-Argument g c = c.use_argument.ensures ∙ sym c.in-Argument.is ∙ c.source_of.ensures
