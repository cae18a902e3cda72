-- `entries::starts` meets its contract. The loop's invariant: the ticks passed have their starts, and the entries before the last start were sent before the tick.
use mathlib.Core.Path.{◌≡◌}
use Prim.Native.Nat.{ℕ, ◌≤◌, ◌<◌}
use lib.ListN.{length, get_or}
use Rattle.forging.specs.Entries.{entry_at, Start}
use Rattle.forging.proofs.entries.starts.Given as goal

abbrev pub invariant-loop-u : goal.invariant-loop-u
invariant-loop-u l = (length l.r ≡ 129) × (l.e ≤ l.count) × ((i : ℕ) → i < l.e → entry_at l.work i 0 < l.u) × ((k : ℕ) → k < l.u → Start l.work 0 l.count k (get_or l.r k 0))
