-- `forgeries::all_in` meets its contract: the loop has passed the first i forgeries, and knows the least that may follow.
use mathlib.Core.Bool.{true}
use mathlib.Core.Path.{◌≡◌}
use Rattle.bits.specs.Field.{field_of}
use Rattle.register.specs.Lists.{all_up_to}
use Rattle.plan.specs.Header.{forgery_bits, forgery_at}
use Rattle.plan.specs.Shape.{shape}
use Rattle.plan.specs.Check.{forgery_stands}
use Rattle.plan.proofs.Waiting.{follows}
use Rattle.forgeries.proofs.all_in.Given as goal

abbrev pub invariant-loop-i : goal.invariant-loop-i
invariant-loop-i l = (all_up_to l.i (forgery_stands l.h.width l.plan (shape l.h)) ≡ true)
    × (l.next ≡ follows (λ j. field_of l.plan (forgery_at l.h.width (shape l.h) j) (forgery_bits l.h.width)) l.i)
