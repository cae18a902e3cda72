-- The requests under way before a tick, by the plan alone, and the workspace that has them.
use Rattle.std.specs.Prelude.{◌≡◌, Bool, ◌&&◌, List, ℕ, ◌+◌, ◌≤◌, ◌<◌, eqb, ltb}
use Rattle.register.specs.Lists.{any}
use Rattle.register.specs.Plan.{Plan, Write, Read}
use Rattle.limits.specs.Limits.{most_readers}
use Rattle.calendar.specs.Layout.{slots}
use Rattle.requests.specs.Requests.{reached_by}

module _ (P : Plan) where
  -- the WRITE of w reaches server b in tick s
  abbrev pub write_reaches : ℕ → ℕ → Write → Bool
  write_reaches s b w = eqb (w.begun + P.delay w.begun P.n b) s

  -- the READ of r, a read of reader x, does
  abbrev pub read_reaches : ℕ → ℕ → ℕ → Read → Bool
  read_reaches x s b r = eqb r.reader x && eqb (r.begun + P.delay r.begun (P.n + x) b) s

  -- of the writes and reads begun before tick t one does
  unfoldable pub write_way : ℕ → ℕ → ℕ → Bool
  write_way t s b = any (λ (w : Write). ltb w.begun t && write_reaches s b w) P.writes

  unfoldable pub read_way : ℕ → ℕ → ℕ → ℕ → Bool
  read_way t x s b = any (λ (r : Read). ltb r.begun t && read_reaches x s b r) P.reads

  -- the requests under way before tick t, in the sixteen ticks from t on
  pub record Requested (t : ℕ) (work : List ℕ) : Type 0 where
    pub writes : (s b : ℕ) → t ≤ s → s < t + slots → b < P.n → reached_by work s 0 b ≡ write_way t s b
    pub reads : (s x b : ℕ) → t ≤ s → s < t + slots → 1 ≤ x → x ≤ most_readers → b < P.n → reached_by work s x b ≡ read_way t x s b

  -- those that begin in tick t
  unfoldable pub write_begins : ℕ → ℕ → ℕ → Bool
  write_begins t s b = any (λ (w : Write). eqb w.begun t && write_reaches s b w) P.writes

  unfoldable pub read_begins : ℕ → ℕ → ℕ → ℕ → Bool
  read_begins t x s b = any (λ (r : Read). eqb r.begun t && read_reaches x s b r) P.reads
