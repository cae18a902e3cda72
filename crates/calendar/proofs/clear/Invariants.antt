-- `clear` meets its contract. The loop's invariant: the cells from the lowest pair to before j are emptied.
use Prim.Native.Nat.{◌≤◌, max}
use Rattle.calendar.specs.Layout.{low_of, high_of}
use Rattle.calendar.proofs.Clearing.{EmptiedTo}
use Rattle.calendar.proofs.clear.Given as goal

abbrev pub invariant-loop-j : goal.invariant-loop-j
invariant-loop-j l = (low_of l.initial.work l.row ≤ l.j) × (l.j ≤ max (low_of l.initial.work l.row) (high_of l.initial.work l.row)) × EmptiedTo l.initial.work l.work l.row (low_of l.initial.work l.row) l.j
