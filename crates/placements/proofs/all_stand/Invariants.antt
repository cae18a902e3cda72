-- `placements::all_stand` meets its contract: the loop has passed the first i placements.
use mathlib.Core.Bool.{true}
use mathlib.Core.Path.{◌≡◌}
use Rattle.register.specs.Lists.{all_up_to}
use Rattle.plan.specs.Shape.{shape}
use Rattle.plan.specs.Check.{placement_stands}
use Rattle.placements.proofs.all_stand.Given as goal

abbrev pub invariant-loop-i : goal.invariant-loop-i
invariant-loop-i l = all_up_to l.i (placement_stands l.h.width l.plan (shape l.h)) ≡ true
