-- `receipts` meets its contract: after b turns the first b servers are counted.
use mathlib.Core.Path.{◌≡◌}
use mathlib.Core.Bool.{Bool, not}
use mathlib.Core.List.{List}
use Prim.Native.Nat.{ℕ, ◌-◌, ◌≤◌}
use lib.ListN.{get_or}
use Rattle.register.specs.Lists.{count}
use Rattle.tables.specs.declared.sending.Sending.{Sending}
use Rattle.limits.specs.Limits.{most_servers}
use Rattle.limits.specs.Bits.{bit}
use Rattle.tables.specs.Sending.{arrival_of}
use Rattle.forecast.proofs.receipts.receipts.Given as goal

-- is server b free when it is reached
abbrev isFree : Sending → List ℕ → ℕ → Bool
isFree sending placements b = not (bit (most_servers - 1 - b) (get_or placements (arrival_of sending b - 1) 0))

abbrev pub invariant-loop-b : goal.invariant-loop-b
invariant-loop-b l = (l.r ≤ l.b) × (l.r ≡ count (isFree l.sending l.placements) l.b)
