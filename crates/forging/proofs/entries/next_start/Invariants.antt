-- `entries::next_start` meets its contract. The loop's invariant: the entries passed were sent before the tick.
use Prim.Native.Nat.{ℕ, ◌≤◌, ◌<◌}
use Rattle.forging.specs.Entries.{entry_at}
use Rattle.forging.proofs.entries.next_start.Given as goal

abbrev pub invariant-loop-i : goal.invariant-loop-i
invariant-loop-i l = (k : ℕ) → l.e ≤ k → k < l.i → entry_at l.work k 0 < l.u
