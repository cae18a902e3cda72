-- `rest_stand` meets its contract: the loop has tested the delays below q.
use mathlib.Core.Path.{◌≡◌}
use Rattle.delays.specs.Steps.{first_stand}
use Rattle.plan.specs.Shape.{shape}
use Rattle.delays.proofs.rest_stand.Given as goal

abbrev pub invariant-loop-q : goal.invariant-loop-q
invariant-loop-q l = l.stands ≡ first_stand l.plan (shape l.h) l.at l.q
