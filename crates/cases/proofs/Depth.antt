-- What request Eight says of reads is not empty: the starred case with six writes. In stores of three pairs a server keeps three where it keeps five now,
-- and the read is owed the same.
use mathlib.Core.Path.{◌≡◌, refl}
use mathlib.Core.Logic.{inl}
use Prim.Native.Nat.{ℕ, ◌≤◌}
use lib.ListN.{take}
use Rattle.register.specs.Cluster.{cluster, server_of}
use Rattle.register.specs.Depth.{at_depth, OwedAlike}
use Rattle.plan.specs.Packed.{plan_of}
use Rattle.results.specs.Look.{shown_by}
use Rattle.results.proofs.PointThree.{owed_at_depth}
use Rattle.cases.specs.Starred.{one_width, six_writes, last_five}
use Rattle.cases.proofs.Opened.{opened}

pub three_kept : (shown_by one_width (server_of (cluster (at_depth 3 (plan_of one_width six_writes)) 12) 2)).pairs ≡ take 3 last_five
unfolding opened
three_kept = refl

pub six_owed : (depth : ℕ) → 3 ≤ depth → OwedAlike (plan_of one_width six_writes) (at_depth depth (plan_of one_width six_writes)) (record { begun = 11; reader = 1 })
unfolding opened
six_owed depth deep = owed_at_depth one_width six_writes 1 refl depth deep (record { begun = 11; reader = 1 }) (inl refl)
