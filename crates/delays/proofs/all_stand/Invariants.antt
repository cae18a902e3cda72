-- `all_stand` meets its contract: the loop has passed the ticks below t.
use mathlib.Core.Bool.{true}
use mathlib.Core.Path.{◌≡◌}
use Rattle.delays.specs.Steps.{tick_stands}
use Rattle.register.specs.Lists.{all_up_to}
use Rattle.plan.specs.Shape.{shape}
use Rattle.delays.proofs.Rows.{tick_at}
use Rattle.delays.proofs.all_stand.Given as goal

abbrev pub invariant-loop-t : goal.invariant-loop-t
invariant-loop-t l = all_up_to l.t (λ u. tick_stands l.plan (shape l.h) (tick_at l.h.width l.plan (shape l.h) u)) ≡ true
