-- `reads::count` meets its contract: the loop has counted among the first i operations.
use mathlib.Core.Path.{◌≡◌}
use Prim.Native.Nat.{◌≤◌}
use Rattle.register.specs.Lists.{count}
use Rattle.plan.specs.Parts.{operation_of}
use Rattle.plan.specs.Shape.{shape}
use Rattle.plan.proofs.Reading.{is_read}
use Rattle.operations.proofs.reads.count.Given as goal

abbrev pub invariant-loop-i : goal.invariant-loop-i
invariant-loop-i l = (l.reads ≤ l.i) × (l.reads ≡ count (λ j. is_read (operation_of l.h.width l.plan (shape l.h) j)) l.i)
