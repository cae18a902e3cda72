-- `register_judge` meets its contract: the code of what Judge returns.
use mathlib.Core.Path.{ap, ◌∙◌}
use Rattle.codes.specs.Codes.{verdict_code}
use Rattle.capi.proofs.register_judge.Goals as goal

pub returns : goal.returns
returns c = c.of_judge.ensures ∙ ap verdict_code c.judge.ensures
