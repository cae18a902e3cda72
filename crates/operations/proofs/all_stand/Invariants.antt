-- `all_stand` meets its contract: the loop has passed the first i operations; two tables say what may follow.
use Rattle.plan.specs.Shape.{shape}
use Rattle.operations.proofs.Passed.{Passed}
use Rattle.operations.proofs.all_stand.Given as goal

abbrev pub invariant-loop-i : goal.invariant-loop-i
invariant-loop-i l = Passed l.h.width l.plan (shape l.h) l.i l.next l.free
