-- `reading::first_from` meets its contract. The loop's invariant: the reads passed begin before the tick.
use Prim.Native.Nat.{ℕ, ◌≤◌, ◌<◌}
use lib.ListN.{get_or}
use Rattle.reading.proofs.first_from.Given as goal

abbrev pub invariant-loop-i : goal.invariant-loop-i
invariant-loop-i l = (j : ℕ) → l.k ≤ j → j < l.i → get_or l.begun j 0 < l.u
