-- Lemma A's two cases of a lost WRITE: server b was reset at movement i + 1, and the WRITE reached it before. Either the write began in the
-- period before the movement, and the others vote for the pair or echo it; or it began earlier, k is 2, and the others echo it. It stands
-- on Recovery.
use mathlib.Core.Path.{◌≡◌}
use mathlib.Core.Bool.{not}
use mathlib.Core.Logic.{◌⊎◌, inl, inr, ◌≢◌}
use Prim.Native.Nat.{ℕ, suc, ◌+◌, ◌*◌, ◌-◌, ◌/◌, ◌≤◌, ◌<◌, max}
use native.Mathlib.Omega.{arith}
use native.Mathlib.Decide.{dec_le}
use lib.Dec.{T, T_not}
use Rattle.register.specs.Lists.{In}
use Rattle.register.specs.Plan.{Write, Plan, kk, echo_quorum}
use Rattle.register.proofs.Good.{Good, Enough, k_cases, k_covers}
use Rattle.register.proofs.Placements.{near, outside, FreeSince, many_outside, period_lo, period_hi, period_is, period_near}
use Rattle.register.proofs.Trace.{mid}
use Rattle.register.proofs.Stages.{write_voted}
use Rattle.register.proofs.Statuses.{not_faulty}
use Rattle.register.proofs.Keeping.{Recent, recent_mono, write_arrives, kept_from_write}
use Rattle.register.proofs.Votes.{VotedSince, Suffices}
use Rattle.register.proofs.Recovery.{by_votes, echoes, by_echo}

-- n suffices for an echo quorum outside two placements
pub enough_two : (P : Plan) → Enough P → (1 + 1) * P.f + echo_quorum P ≤ P.n
enough_two P E = elim (k_cases P) [ inl e ↦ omega (arith, rw e at E) | inr e ↦ omega (arith, rw e at E) ]

-- and, where k is 2, outside three
pub enough_three : (P : Plan) → Enough P → kk P ≡ 2 → (2 + 1) * P.f + echo_quorum P ≤ P.n
enough_three P E e = omega (arith, rw e at E)

module _ (P : Plan) (G : Good P) (E : Enough P) where
  module _ (w : Write) (wi : In w P.writes) (i t b : ℕ) (l : b < P.n) (pb : T (P.placed i b)) (recent : Recent P (suc t) w.pair)
      (cured-by : suc i * P.period + P.delta ≤ suc t) (f : FreeSince P b (suc i * P.period) (suc t)) where
    -- the write began in the period before movement i + 1; others may get it after that
    pub lost_in_period : w.begun + 2 * P.delta ≤ suc t → i * P.period ≤ w.begun → w.begun < suc i * P.period
        → suc i * P.period < w.begun + 2 * P.delta
        → In w.pair (mid P (suc t) b).server.kept
    lost_in_period late lo hi near2 =
        by_votes P G (suc i) u (suc t) b p (λ v. not (near P (suc i) 1 v)) l (omega (arith, g, g'))
        (omega (arith, g, g')) recent f voter enough
      where
        p : ℕ
        p = w.pair

        m : ℕ
        m = suc i * P.period

        g : 1 ≤ P.delta
        g = G.delta_pos

        g' : P.delta ≤ P.period
        g' = G.delta_period

        u : ℕ
        u = max (suc i * P.period + P.delta) (w.begun + 2 * P.delta) - 1

        enough : Suffices P (suc i) u (λ v. not (near P (suc i) 1 v))
        enough = go (k_cases P)
          where
            go : (kk P ≡ 1) ⊎ (kk P ≡ 2) → Suffices P (suc i) u (λ v. not (near P (suc i) 1 v))
            go (inl e) =
                let c = rw e at (k_covers P G) in
                let q = period_is P G (suc i) u (omega (arith, g, g')) (omega (arith, g, g')) in
                inl (omega (arith, many_outside P G (suc i) 1, enough_two P E), q)
            go (inr e) =
                let q = period_hi P G (suc i + 2) u (omega (arith, g, g')) in
                inr (omega (arith, many_outside P G (suc i) 1, E), omega arith, e)

        out : (v : ℕ) → T (not (near P (suc i) 1 v)) → (x : ℕ) → i * P.period ≤ x → x < suc i * P.period + P.period
            → T (not (P.placed (x / P.period) v))
        out v h x a c =
            let hi = period_hi P G (suc i + 1) x (omega arith) in
            let lo = period_lo P G i x a in
            outside P (suc i) 1 v (x / P.period) h (omega arith) (omega arith)

        send : (v : ℕ) → v < P.n → T (not (near P (suc i) 1 v)) → Dec (w.begun + P.delay w.begun P.n v ≤ suc i * P.period)
            → VotedSince P (suc i) u b p v
        send v vl h (yes a) = (
          m,
          omega arith,
          omega (arith, g, G.delay_hi m v b),
          echoes P G i v p vl (outside P (suc i) 1 v (suc i) h (omega arith) (omega arith))
              (outside P (suc i) 1 v i h (omega arith) (omega arith))
              (kept_from_write P G w m v wi vl (recent_mono P m (suc t) p (omega arith) recent) a
              (λ x y q. out v h x (omega (arith, G.delay_lo w.begun P.n v)) (omega (arith, g')))),
        )
        send v vl h (no a) =
            let s : ℕ = w.begun + P.delay w.begun P.n v in
            let h1 = G.delay_hi w.begun P.n v in
            let e : s ≡ suc (s - 1) = omega arith in (
              s,
              omega arith,
              omega (arith, g, G.delay_hi s v b),
              write_voted P s v p (rw e (not_faulty P G (s - 1) v vl (out v h (s - 1) (omega arith) (omega (arith, g')))))
                  (write_arrives P w v wi),
            )

        voter : (v : ℕ) → v < P.n → T (not (near P (suc i) 1 v)) → (b ≢ v) × VotedSince P (suc i) u b p v
        voter v vl h = (
          (λ q. T_not (P.placed i v) (outside P (suc i) 1 v i h (omega arith) (omega arith)) (rw q at pb)),
          send v vl h (dec_le (w.begun + P.delay w.begun P.n v) (suc i * P.period)),
        )

    -- the write began before that period: k is 2, and it reached the others before the movement
    pub lost_earlier : w.begun < i * P.period → suc i * P.period < w.begun + 2 * P.delta
        → In w.pair (mid P (suc t) b).server.kept
    lost_earlier lo near2 =
        by_echo P G i 2 (suc t) b w.pair (omega arith) enough2 l pb cured-by recent f
        (λ v vl h. kept_from_write P G w (suc i * P.period) v wi vl
        (recent_mono P (suc i * P.period) (suc t) w.pair (omega arith) recent)
        (omega (arith, G.delay_hi w.begun P.n v, G.delta_period))
        (λ x y q. outside P (suc i) 2 v (x / P.period) h (let r = period_hi P G (suc i) x q in omega arith)
        (period_near P G (suc i) x 2 (omega (arith, G.delay_lo w.begun P.n v, G.delta_period)))))
      where
        enough2 : (2 + 1) * P.f + echo_quorum P ≤ P.n
        enough2 = elim (k_cases P) [ inl e ↦ absurd (omega (arith, rw e at (k_covers P G))) | inr e ↦ enough_three P E e ]
