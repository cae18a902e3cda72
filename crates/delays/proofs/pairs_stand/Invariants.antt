-- `pairs_stand` meets its contract: the loop has tested the pairs below k.
use mathlib.Core.Path.{◌≡◌}
use Prim.Native.Nat.{◌*◌}
use Rattle.delays.specs.Steps.{first_stand}
use Rattle.plan.specs.Shape.{shape}
use Rattle.delays.proofs.pairs_stand.Given as goal

abbrev pub invariant-loop-k : goal.invariant-loop-k
invariant-loop-k l = l.stands ≡ first_stand l.plan (shape l.h) l.at (2 * l.k)
