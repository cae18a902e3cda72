-- `register_check` meets its contract: the code of what Check returns.
use mathlib.Core.Path.{ap, ◌∙◌}
use Rattle.codes.specs.Codes.{code_of}
use Rattle.capi.proofs.register_check.Goals as goal

pub returns : goal.returns
returns c = c.of_outcome.ensures ∙ ap code_of c.check.ensures
