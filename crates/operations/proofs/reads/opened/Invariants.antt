-- `reads::opened` meets its contract: the loop has marked the reads among the first i operations.
use mathlib.Core.Path.{◌≡◌}
use lib.ListN.{length}
use Rattle.operations.specs.Reads.{Opened}
use Rattle.plan.specs.Shape.{shape}
use Rattle.operations.proofs.reads.opened.Given as goal

abbrev pub invariant-loop-i : goal.invariant-loop-i
invariant-loop-i l = (length l.table ≡ 1024) × Opened l.h.width l.plan (shape l.h) l.i l.table
