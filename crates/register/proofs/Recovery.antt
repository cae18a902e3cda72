-- After a reset: a server that was faulty and is so no more takes in a pair again by votes, from the echo of the servers that kept it at
-- the movement, or from those that a WRITE reached since. It stands on Votes and Keeping; Enough comes in with the counts that a caller
-- gives.
use mathlib.Core.Path.{◌≡◌}
use mathlib.Core.Bool.{Bool, not}
use mathlib.Core.Logic.{◌⊎◌, inl, inr, ◌≢◌}
use Prim.Native.Nat.{ℕ, zero, suc, ◌+◌, ◌*◌, ◌-◌, ◌/◌, ◌≤◌, ◌<◌}
use native.Mathlib.Nat.{le-div_iff_mul-le}
use native.Mathlib.Omega.{arith}
use native.Mathlib.Decide.{ℕ_discrete}
use lib.Dec.{T, T_not}
use Rattle.register.specs.Lists.{In}
use Rattle.register.specs.Plan.{Plan}
use Rattle.register.specs.Server.{is_faulty, is_correct}
use Rattle.register.proofs.Logic.{test}
use Rattle.register.proofs.Good.{Good}
use Rattle.register.proofs.Placements.{near, outside, FreeSince, is_move_lem, many_outside, period_pos, period_lo, period_is, period_mono}
use Rattle.register.proofs.Trace.{before, mid, end}
use Rattle.register.proofs.Stages.{next_same, echo_sent}
use Rattle.register.proofs.Statuses.{CureOver, not_faulty, steady_correct, placed_mid_correct}
use Rattle.register.proofs.Keeping.{Recent, recent_mono, takes, stays_kept}
use Rattle.register.proofs.Votes.{VotedSince, Suffices, votes_suffice}

-- server b is faulty in no placement up to c; or in placement i, and in none from i + 1 up to c: it was last reset at movement i + 1
abbrev pub NeverFaulty : Plan → ℕ → ℕ → Type 0
NeverFaulty P b c = (j : ℕ) → j ≤ c → T (not (P.placed j b))

abbrev pub ResetIn : Plan → ℕ → ℕ → Type 0
ResetIn P b c = (i : ℕ) × (suc i ≤ c) × T (P.placed i b) × ((j : ℕ) → suc i ≤ j → j ≤ c → T (not (P.placed j b)))

-- every server that is correct after stage 2 of tick t + 1 keeps p
abbrev pub AllKeep : Plan → ℕ → ℕ → Type 0
AllKeep P p t = (b : ℕ) → b < P.n → T (is_correct (mid P (suc t) b).server.status) → In p (mid P (suc t) b).server.kept

pub last_reset : (P : Plan) (c b : ℕ) → T (not (P.placed c b)) → NeverFaulty P b c ⊎ ResetIn P b c
last_reset P zero b h = inl (λ j l. let e : j ≡ 0 = omega arith in rw e h)
last_reset P (suc c) b h = go (test (P.placed c b)) (last_reset P c b)
  where
    up : (j : ℕ) → (j ≤ c → T (not (P.placed j b))) → j ≤ suc c → T (not (P.placed j b))
    up j r l = pick (ℕ_discrete j (suc c))
      where
        pick : Dec (j ≡ suc c) → T (not (P.placed j b))
        pick (yes e) = rw e h
        pick (no n) = r (omega arith)

    go : T (P.placed c b) ⊎ T (not (P.placed c b)) → (T (not (P.placed c b)) → NeverFaulty P b c ⊎ ResetIn P b c)
        → NeverFaulty P b (suc c) ⊎ ResetIn P b (suc c)
    go (inl k) ih = inr (c, omega arith, k, (λ j a z. let e : j ≡ suc c = omega arith in rw e h))
    go (inr k) ih = elim (ih k) [
      | inl f ↦ inl (λ j z. up j (λ y. f j y) z)
      | inr r ↦ inr (r.0, omega arith, r.2, (λ j a z. up j (λ y. r.3 j a y) z))
    ]

module _ (P : Plan) (G : Good P) where
  -- votes enough by tick u + 1 bring the pair, and it stays to tick t
  pub by_votes : (i u t b p : ℕ) (W : ℕ → Bool) → b < P.n → i * P.period ≤ u → u < t → Recent P t p
      → FreeSince P b (i * P.period) t
      → ((v : ℕ) → v < P.n → T (W v) → (b ≢ v) × VotedSince P i u b p v)
      → Suffices P i u W
      → In p (mid P t b).server.kept
  by_votes i u t b p W l a z recent f vote enough =
      let h = not_faulty P G u b l (f u a z) in
      stays_kept P G (suc u) t b p l z recent h (λ v x y. f v (omega arith) y)
      (takes P G (suc u) b p (recent_mono P (suc u) t p z recent) h (inr (inr
      (votes_suffice P G i u b p W l a (λ w x y. f w x (omega arith)) vote enough))))

  -- a server in neither placement that keeps the pair at movement i + 1 echoes it
  pub echoes : (i v p : ℕ) → v < P.n → T (not (P.placed (suc i) v)) → T (not (P.placed i v))
      → In p (mid P (suc i * P.period) v).server.kept
      → In p (end P (suc i * P.period) v).sent.votes
  echoes i v p l n1 n2 k =
      let m : ℕ = suc i * P.period in
      let d = period_pos P G in
      let e : m / P.period ≡ suc i = period_is P G (suc i) m (omega arith) (omega arith) in
      let e0 : m ≡ suc (m - 1) = omega arith in
      let z : (m - 1) / P.period ≡ i = period_is P G i (m - 1) (omega arith) (omega arith) in
      let z' : m / P.period - 1 ≡ i = omega arith in
      let pl : T (not (P.placed (m / P.period) v)) = rw e n1 in
      let free : T (not (is_faulty (before P m v).status)) = rw e0 (not_faulty P G (m - 1) v l (rw z n2)) in
      echo_sent P m v p l (is_move_lem P (suc i)) (steady_correct P G m v l pl (rw z' n2)) (rw (next_same P m v l free pl).0 k)

  -- enough servers, in none of e + 1 placements up to movement i + 1, kept the pair then
  pub by_echo : (i e t b p : ℕ) → 1 ≤ e → (e + 1) * P.f + (2 * P.f + 1) ≤ P.n → b < P.n → T (P.placed i b)
      → suc i * P.period + P.delta ≤ t → Recent P t p
      → FreeSince P b (suc i * P.period) t
      → ((v : ℕ) → v < P.n → T (not (near P (suc i) e v)) → In p (mid P (suc i * P.period) v).server.kept)
      → In p (mid P t b).server.kept
  by_echo i e t b p e1 en l pb z recent f had =
      let g = G.delta_pos in
      let g' = G.delta_period in
      let M = many_outside P G (suc i) e in
      let u : ℕ = suc i * P.period + P.delta - 1 in
      by_votes (suc i) u t b p (λ v. not (near P (suc i) e v)) l (omega arith) (omega arith) recent f
      (λ v vl h. (
        (λ q. T_not (P.placed i v) (outside P (suc i) e v i h (omega arith) (omega arith)) (rw q at pb)),
        (
          suc i * P.period,
          omega arith,
          omega (arith, G.delay_hi (suc i * P.period) v b),
          echoes i v p vl (outside P (suc i) e v (suc i) h (omega arith) (omega arith))
              (outside P (suc i) e v i h (omega arith) (omega arith)) (had v vl h),
        ),
      ))
      (inl (omega arith, period_is P G (suc i) u (omega arith) (omega arith)))

  -- a server reset at movement i + 1 whose cure is over was reset delta ticks ago, and has been free since
  pub since_reset : (t b i : ℕ) → suc i ≤ t / P.period → T (P.placed i b)
      → ((j : ℕ) → suc i ≤ j → j ≤ t / P.period → T (not (P.placed j b)))
      → CureOver P t b → (suc i * P.period + P.delta ≤ suc t) × FreeSince P b (suc i * P.period) (suc t)
  since_reset t b i a pb f cure = (
    go (ℕ_discrete (suc i) (t / P.period)),
    (λ w x y. f (w / P.period) (period_lo P G (suc i) w x) (period_mono P G w t (omega arith))),
  )
    where
      go : Dec (suc i ≡ t / P.period) → suc i * P.period + P.delta ≤ suc t
      go (yes e) = let z : t / P.period - 1 ≡ i = omega arith in
          rw e (cure (omega arith) (rw z pb))
      go (no n) =
          let h : suc (suc i) * P.period ≤ t = (le-div_iff_mul-le {x = suc (suc i)} {y = t} (period_pos P G)).0 (omega arith) in
          omega (arith, G.delta_period)

  -- a server outside the placements i and i + 1 is correct just before movement i + 1
  pub before_move : (i e v p : ℕ) → 1 ≤ e → v < P.n → T (not (near P (suc i) e v)) → AllKeep P p (suc i * P.period - 1)
      → In p (mid P (suc i * P.period) v).server.kept
  before_move i e v p e1 l h holds =
      let m : ℕ = suc i * P.period in
      let d = period_pos P G in
      let g' = G.delta_period in
      let e0 : m ≡ suc (m - 1) = omega arith in
      let z : (m - 1) / P.period ≡ i = period_is P G i (m - 1) (omega arith) (omega arith) in
      rw e0 (holds v l (placed_mid_correct P G (m - 1) v l (rw z (outside P (suc i) e v i h (omega arith) (omega arith)))
      (λ x y. rw z (omega arith))))
