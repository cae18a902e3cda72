-- `tallies::join_row` meets its contract. The loop's invariant: what arrives for the pairs before j has joined.
use mathlib.Core.Path.{◌≡◌}
use Prim.Native.Nat.{ℕ}
use lib.ListN.{length, get_or}
use Rattle.calendar.specs.Layout.{sender}
use Rattle.tallies.specs.Tallies.{table_size, Outside}
use Rattle.tallies.proofs.TallyLaws.{Part}
use Rattle.tallies.proofs.join_row.Given as goal

abbrev pub invariant-loop-j : goal.invariant-loop-j
invariant-loop-j l = (length l.sets ≡ table_size) × ((c : ℕ) → Outside l.at c → get_or l.sets c 0 ≡ get_or l.initial.sets c 0) × Part l.initial.sets l.sets l.at (sender l.work l.row) l.j
