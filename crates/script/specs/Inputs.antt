-- What the code computes for a tick, over the plan's bits and the workspace.
use Rattle.std.specs.Prelude.{◌≡◌, Bool, cond, not, ◌&&◌, List, ℕ, ◌+◌, ◌*◌, ◌-◌, ◌/◌, ◌%◌, ◌≤◌, ◌<◌, eqb, ltb, get_or, Option, Some, None}
use Rattle.bits.specs.Field.{field_of}
use Rattle.plan.specs.Header.{placement_bits, placement_at}
use Rattle.limits.specs.Bits.{bit}
use Rattle.requests.specs.Requests.{reached_of}
use Rattle.cluster.specs.declared.Arrivals.{Arrivals}
use Rattle.cluster.specs.declared.Feed.{Feed}
use Rattle.cluster.specs.Inputs.{requesters}
use Rattle.script.specs.declared.Script.{Script}
use Rattle.script.specs.Script.{width_in}

-- r is the last of the numbers 1 .. m - 1 whose write began before t, or 0
pub record LatestWrite (begun : List ℕ) (m t r : ℕ) : Type 0 where
  pub below : r < m
  pub before : 0 < r → get_or begun r 0 < t
  pub last : (j : ℕ) → r < j → j < m → t ≤ get_or begun j 0

-- the servers that each party's request reaches in tick t
pub record Reached (work : List ℕ) (t : ℕ) (r : List ℕ) : Type 0 where
  pub each : (p : ℕ) → p < requesters → get_or r p 0 ≡ reached_of work t p

-- reader x's last read, which ends in one of these ticks, did not begin in the tick before t
unfoldable pub live_at : List ℕ → ℕ → ℕ → ℕ → Bool
live_at ends t delta x = ltb x requesters && (ltb 0 x && not (eqb (get_or ends (x - 1) 0 + 1) (t + 2 * delta)))

-- what arrives in tick t
pub record Arrive (work : List ℕ) (number : ℕ) (ends : List ℕ) (t delta : ℕ) (r : Arrivals) : Type 0 where
  pub requests : Reached work t r.requests
  pub last : r.number ≡ number
  pub live : (λ x. bit x r.live) ≡ live_at ends t delta

-- the placement that tick t brings, if it is a movement
abbrev pub Moves : ℕ → List ℕ → ℕ → ℕ → Option ℕ → Type 0
Moves w plan period t r = r ≡ cond (eqb (t % period) 0) (Some (field_of plan (placement_at w (t / period)) placement_bits)) None

-- what tick t is fed
pub record FedBy (s work : List ℕ) (r : Script) (number : ℕ) (ends : List ℕ) (t : ℕ) (f : Feed) : Type 0 where
  pub same : f ≡ record { t = t; rules = r.rules; m = r.writes.known.m; links = r.links; arrivals = f.arrivals; movement = f.movement }
  pub comes : Arrive work number ends t r.rules.delta f.arrivals
  pub moves : Moves (width_in r) s r.shape.period t f.movement
