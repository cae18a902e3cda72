-- `of_writes` meets its contract: after j turns the receipts of the first j writes are counted.
use mathlib.Core.Path.{◌≡◌}
use Prim.Native.Nat.{◌+◌, ◌*◌, ◌-◌, ◌≤◌}
use lib.ListN.{get_or}
use Rattle.traffic.specs.Traffic.{sum}
use Rattle.limits.specs.Limits.{most_servers}
use Rattle.forecast.specs.Steps.{receipts_by}
use Rattle.forecast.proofs.receipts.of_writes.Given as goal

abbrev pub invariant-loop-j : goal.invariant-loop-j
invariant-loop-j l = (1 ≤ l.j) × (l.r ≤ most_servers * (l.j - 1)) × (l.r ≡ sum (λ i. receipts_by l.plan l.links l.links.n l.placements (get_or l.writes.begun (i + 1) 0)) (l.j - 1))
