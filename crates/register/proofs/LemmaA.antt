-- Lemma A: from two delays after its write began, every correct server keeps a pair with fewer than depth later writes begun, after stage 2
-- of a tick and at its end; the initial pair from tick 0. It stands on Recovery and WriteCases, and needs Enough.
use mathlib.Core.Path.{refl}
use mathlib.Core.Bool.{not}
use mathlib.Core.Logic.{◌⊎◌, inl, inr}
use Prim.Native.Nat.{ℕ, zero, suc, ◌+◌, ◌*◌, ◌-◌, ◌/◌, ◌≤◌, ◌<◌}
use native.Mathlib.Omega.{arith}
use native.Mathlib.Decide.{dec_le}
use lib.Dec.{T}
use Rattle.register.specs.Lists.{In}
use Rattle.register.specs.Plan.{Write, Plan}
use Rattle.register.specs.Server.{is_faulty, is_correct}
use Rattle.register.specs.Cluster.{server_of, cluster}
use Rattle.register.specs.Regular.{later_begun}
use Rattle.register.proofs as register-laws
use Rattle.register.proofs.Good.{Good, Enough}
use Rattle.register.proofs.Placements.{FreeSince, period_pos, period_mono}
use Rattle.register.proofs.Trace.{before, mid, before_zero}
use Rattle.register.proofs.Statuses.{CureOver, mid_correct_placed}
use Rattle.register.proofs.Keeping.{Recent, recent_mono, later_recent, takes, stays_kept, kept_from_write}
use Rattle.register.proofs.Recovery.{NeverFaulty, ResetIn, AllKeep, last_reset, by_echo, since_reset, before_move}
use Rattle.register.proofs.WriteCases.{enough_two, lost_in_period, lost_earlier}

module _ (P : Plan) (G : Good P) (E : Enough P) where
  -- at the start every server keeps the initial pair
  start-free : (b : ℕ) → b < P.n → T (not (is_faulty (before P 0 b).status))
  start-free b l = rw (before_zero P b l) tt

  start-mid : (b : ℕ) → b < P.n → Recent P 0 P.initial → In P.initial (mid P 0 b).server.kept
  start-mid b l recent = takes P G 0 b P.initial recent (start-free b l) (inl (rw (before_zero P b l) (inl refl)))

  -- a server that was reset takes in from the echo what all kept just before the movement
  from-echo : (t b i p : ℕ) → b < P.n → T (P.placed i b) → suc i * P.period + P.delta ≤ suc t
      → FreeSince P b (suc i * P.period) (suc t)
      → Recent P (suc t) p → AllKeep P p (suc i * P.period - 1) → In p (mid P (suc t) b).server.kept
  from-echo t b i p l pb z f recent all =
      by_echo P G i 1 (suc t) b p (omega arith) (enough_two P E) l pb z recent f
      (λ v vl q. before_move P G i 1 v p (omega arith) vl q all)

  initial-step : (t : ℕ) → ((u : ℕ) → u < t → Recent P (suc u) P.initial → AllKeep P P.initial u)
      → Recent P (suc t) P.initial → AllKeep P P.initial t
  initial-step t ih recent b l h = go (last_reset P (t / P.period) b placed.0)
    where
      placed : T (not (P.placed (t / P.period) b)) × CureOver P t b
      placed = mid_correct_placed P G t b l h

      go : NeverFaulty P b (t / P.period) ⊎ ResetIn P b (t / P.period) → In P.initial (mid P (suc t) b).server.kept
      go (inl f) =
          stays_kept P G 0 (suc t) b P.initial l (omega arith) recent (start-free b l)
          (λ v x y. f (v / P.period) (period_mono P G v t (omega arith)))
          (start-mid b l (recent_mono P 0 (suc t) P.initial (omega arith) recent))
      go (inr (i, a, pb, f)) =
          let r = since_reset P G t b i a pb f placed.1 in
          let d = period_pos P G in
          let g = G.delta_pos in
          let z = r.0 in
          from-echo t b i P.initial l pb r.0 r.1 recent
          (ih (suc i * P.period - 1) (omega arith) (recent_mono P (suc (suc i * P.period - 1)) (suc t) P.initial (omega arith) recent))

  pub initial_all_keep : (t : ℕ) → Recent P (suc t) P.initial → AllKeep P P.initial t
  initial_all_keep = register-laws.Logic.strong_induction (λ t. Recent P (suc t) P.initial → AllKeep P P.initial t) initial-step

  module _ (w : Write) (wi : In w P.writes) where
    write_step : (t : ℕ) → ((u : ℕ) → u < t → w.begun + 2 * P.delta ≤ suc u → Recent P (suc u) w.pair → AllKeep P w.pair u)
        → w.begun + 2 * P.delta ≤ suc t → Recent P (suc t) w.pair → AllKeep P w.pair t
    write_step t ih late recent b l h = go (last_reset P (t / P.period) b placed.0)
      where
        placed : T (not (P.placed (t / P.period) b)) × CureOver P t b
        placed = mid_correct_placed P G t b l h

        a : ℕ
        a = w.begun + P.delay w.begun P.n b

        a-lo : w.begun < a
        a-lo = omega (arith, G.delay_lo w.begun P.n b)

        a-hi : a ≤ w.begun + P.delta
        a-hi = omega (arith, G.delay_hi w.begun P.n b)

        -- by the WRITE's arrival and the write's begin, against the movement
        cases : (i : ℕ) → T (P.placed i b) → suc i * P.period + P.delta ≤ suc t → FreeSince P b (suc i * P.period) (suc t)
            → Dec (a ≤ suc i * P.period) → Dec (w.begun + 2 * P.delta ≤ suc i * P.period) → Dec (i * P.period ≤ w.begun)
            → In w.pair (mid P (suc t) b).server.kept
        cases i pb z f (no n) d e = kept_from_write P G w (suc t) b wi l recent (omega (arith, a-hi)) (λ v x y. f v (omega arith) y)
        cases i pb z f (yes y) (yes d) e =
            let g = G.delta_pos in
            let q = period_pos P G in
            from-echo t b i w.pair l pb z f recent
            (ih (suc i * P.period - 1) (omega arith) (omega arith)
            (recent_mono P (suc (suc i * P.period - 1)) (suc t) w.pair (omega arith) recent))
        cases i pb z f (yes y) (no d) (yes e) = lost_in_period P G E w wi i t b l pb recent z f late e (omega (arith, a-lo)) (omega arith)
        cases i pb z f (yes y) (no d) (no e) = lost_earlier P G E w wi i t b l pb recent z f (omega arith) (omega arith)

        go : NeverFaulty P b (t / P.period) ⊎ ResetIn P b (t / P.period) → In w.pair (mid P (suc t) b).server.kept
        go (inl f) =
            kept_from_write P G w (suc t) b wi l recent (omega (arith, a-hi))
            (λ v x y. f (v / P.period) (period_mono P G v t (omega arith)))
        go (inr (i, x, pb, f)) =
            let r = since_reset P G t b i x pb f placed.1 in
            cases i pb r.0 r.1 (dec_le a (suc i * P.period)) (dec_le (w.begun + 2 * P.delta) (suc i * P.period))
            (dec_le (i * P.period) w.begun)

    pub write_all_keep : (t : ℕ) → w.begun + 2 * P.delta ≤ suc t → Recent P (suc t) w.pair → AllKeep P w.pair t
    write_all_keep =
        register-laws.Logic.strong_induction (λ t. w.begun + 2 * P.delta ≤ suc t → Recent P (suc t) w.pair → AllKeep P w.pair t) write_step

    -- after stage 2 of tick t, and at the end of tick t
    pub write_kept_mid : (t : ℕ) → w.begun + 2 * P.delta ≤ t → later_begun P t w.pair < P.depth → (b : ℕ) → b < P.n
        → T (is_correct (mid P t b).server.status) → In w.pair (mid P t b).server.kept
    write_kept_mid zero late few b l h = absurd (omega (arith, G.delta_pos))
    write_kept_mid (suc t) late few b l h =
        let above = G.initial_least w wi in
        write_all_keep t late (later_recent P (suc t) w.pair (omega arith) few) b l h

    pub write_kept_end : (t : ℕ) → w.begun + 2 * P.delta ≤ t → later_begun P t w.pair < P.depth → (b : ℕ) → b < P.n
        → T (is_correct (server_of (cluster P (suc t)) b).status) → In w.pair (server_of (cluster P (suc t)) b).kept
    unfolding before
    write_kept_end t late few b l h = let e = register-laws.Stages.end_correct P t b l h in rw e.1 (write_kept_mid t late few b l e.0)

  pub initial_kept_mid : (t : ℕ) → later_begun P t P.initial < P.depth → (b : ℕ) → b < P.n
      → T (is_correct (mid P t b).server.status) → In P.initial (mid P t b).server.kept
  initial_kept_mid zero few b l h = start-mid b l (later_recent P 0 P.initial (omega arith) few)
  initial_kept_mid (suc t) few b l h = initial_all_keep t (later_recent P (suc t) P.initial (omega arith) few) b l h

  pub initial_kept_end : (t : ℕ) → later_begun P t P.initial < P.depth → (b : ℕ) → b < P.n
      → T (is_correct (server_of (cluster P (suc t)) b).status) → In P.initial (server_of (cluster P (suc t)) b).kept
  unfolding before
  initial_kept_end t few b l h = let e = register-laws.Stages.end_correct P t b l h in rw e.1 (initial_kept_mid t few b l e.0)
