-- `highest` meets its contract: behind the first numbers it has the largest of them.
use mathlib.Core.Path.{◌≡◌}
use lib.ListN.{length, get_or, take}
use Rattle.traffic.specs.Traffic.{largest}
use Rattle.forecast.proofs.arrivals.highest.Given as goal

abbrev pub invariant-loop-x : goal.invariant-loop-x
invariant-loop-x l = (take (length l.x-items) l.table ≡ l.x-items) × (l.r ≡ largest (λ i. get_or l.table i 0) l.x-index)
