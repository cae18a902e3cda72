-- `values::values_fit` meets its contract: the first i values are below the limit.
use mathlib.Core.Bool.{true}
use mathlib.Core.Path.{◌≡◌}
use Rattle.register.specs.Lists.{all_up_to}
use Rattle.carry.proofs.Fields.{below}
use Rattle.carry.proofs.values.values_fit.Given as goal

abbrev pub invariant-loop-i : goal.invariant-loop-i
invariant-loop-i l = all_up_to l.i (below l.plan l.fields.at l.fields.step l.fields.width l.limit) ≡ true
