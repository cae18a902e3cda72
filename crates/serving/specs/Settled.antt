-- Servers that have taken in every pair with a quorum. Taking such a pair in again changes nothing, so only the pairs need to be tested that votes
-- arrive for, and a server that nothing reaches may stay as it is.
use Rattle.std.specs.Prelude.{◌≡◌, true, ℕ, ◌≤◌, ◌<◌, length, take}
use Rattle.register.specs.Server.{insert}
use Rattle.plan.specs.Packed.{store_depth}
use Rattle.serving.specs.Stored.{Plain}
use Rattle.serving.specs.Stages.{voting}

pub record Settled (m e r : ℕ) (s : Plain) : Type 0 where
  pub few : length s.kept ≤ store_depth
  pub same : (j : ℕ) → j < m → voting e r s.fresh s.recent j ≡ true → take store_depth (insert j s.kept) ≡ s.kept
  -- the present period is one of the last k
  pub present : (j i : ℕ) → s.fresh j i ≡ true → s.recent j i ≡ true
