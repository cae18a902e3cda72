-- `tallies::next_period` meets its contract. The loop's invariant: the cells before c are told in those of the last k periods, and all others are as they were.
use mathlib.Core.Path.{◌≡◌}
use mathlib.Core.Logic.{◌⊎◌}
use Prim.Native.Nat.{ℕ, ◌+◌, ◌<◌, ◌≤◌}
use lib.ListN.{length, get_or}
use Rattle.tallies.specs.Tallies.{recent_at}
use Rattle.tallies.proofs.next_period.Given as goal

abbrev pub invariant-loop-c : goal.invariant-loop-c
invariant-loop-c l = (l.c ≤ l.end) × (length l.sets ≡ length l.initial.sets)
    × ((x : ℕ) → x < l.c → get_or l.sets (recent_at + x) 0 ≡ get_or l.initial.sets x 0)
    × ((x : ℕ) → (x < recent_at) ⊎ (recent_at + l.c ≤ x) → get_or l.sets x 0 ≡ get_or l.initial.sets x 0)
