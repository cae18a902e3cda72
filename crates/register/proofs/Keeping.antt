-- A store keeps a pair that is recent: fewer than depth genuine pairs are above it. It takes in a recent pair that a WRITE brings or a
-- quorum has voted for, and keeps it while the server is not faulty. It stands on Safety, Stages and Statuses, not on Enough.
use mathlib.Core.Path.{◌≡◌}
use mathlib.Core.Bool.{Bool, not, ◌&&◌}
use mathlib.Core.Logic.{◌⊎◌, inl, inr}
use mathlib.Core.List.{List, ◌++◌, map}
use Prim.Native.Nat.{ℕ, zero, suc, ◌+◌, ◌-◌, ◌/◌, ◌≤◌, ◌<◌}
use native.Mathlib.Omega.{arith}
use native.Mathlib.Decide.{ℕ_discrete}
use lib.Dec.{T, ltb, eqb, eqb_refl, lt→ltb}
use lib.ListN.{take, length, length-map}
use Rattle.register.specs.Lists.{filter, In}
use Rattle.register.specs.Plan.{Write, Plan}
use Rattle.register.specs.Server.{is_faulty, Claim, pairs_of, Server, insert_all, take_in, quorum, voted_in, deliver}
use Rattle.register.specs.Cluster.{writes_in, votes_in, cluster}
use Rattle.register.specs.Regular.{later_begun}
use Rattle.register.proofs as register-laws
use Rattle.register.proofs.Lists.{in_append, in_left, in_right, in_filter, filter_in, in_take, map_in}
use Rattle.register.proofs.Genuine.{Genuine, genuine_mono, genuine_above}
use Rattle.register.proofs.Stores.{Falling, in_insert_all, falling_take, falling_insert_all, insert_all_in, first_or_above}
use Rattle.register.proofs.Trace.{before, mid, fresh_in}
use Rattle.register.proofs.Stages.{mid_keeps, delivered_is, next_same}

-- fewer than depth pairs above p are genuine at t
abbrev pub Recent : Plan → ℕ → ℕ → Type 0
Recent P t p = (l : List ℕ) → Falling l → ((q : ℕ) → In q l → Genuine P t q × (p < q)) → length l < P.depth

pub recent_mono : (P : Plan) (t u p : ℕ) → t ≤ u → Recent P u p → Recent P t p
recent_mono P t u p h f l d g = f l d (λ q i. (genuine_mono P t u q h (g q i).0, (g q i).1))

-- fewer than depth later writes begun: each genuine pair above p is that of one of them
pub later_recent : (P : Plan) (t p : ℕ) → P.initial ≤ p → later_begun P t p < P.depth → Recent P t p
unfolding later_begun
later_recent P t p lo h l d g =
    omega (
      arith,
      length-map (filter later P.writes) (λ (w : Write). w.pair),
      register-laws.Stores.falling_length l (map (λ (w : Write). w.pair) (filter later P.writes)) d (λ q i. there q (g q i).0 (g q i).1),
    )
  where
    later : Write → Bool
    later w = ltb p w.pair && ltb w.begun t

    there : (q : ℕ) → Genuine P t q → p < q → In q (map (λ (w : Write). w.pair) (filter later P.writes))
    there q g a =
        let (w, i, e, b) = genuine_above P t p q lo g a in
        rw e at (map_in (λ (w : Write). w.pair) w (filter later P.writes) (filter_in later w P.writes i
        (register-laws.Logic.and_i (ltb p w.pair) (ltb w.begun t) (lt→ltb p w.pair (omega arith)) (lt→ltb w.begun t b))))

pub keep_take_in : (P : Plan) (t p : ℕ) → Recent P t p → (ps l : List ℕ) → Falling l → ((q : ℕ) → In q l → Genuine P t q)
    → ((q : ℕ) → In q ps → Genuine P t q) → In p ps ⊎ In p l → In p (take_in P.depth ps l)
unfolding take_in
keep_take_in P t p recent ps l d g gs i = go (first_or_above p P.depth m (falling_insert_all ps l d) (insert_all_in p ps l i))
  where
    m : List ℕ
    m = insert_all ps l

    all : (q : ℕ) → In q m → Genuine P t q
    all q k = elim (in_insert_all q ps l k) [ inl a ↦ gs q a | inr b ↦ g q b ]

    go : In p (take P.depth m) ⊎ ((length (take P.depth m) ≡ P.depth) × ((q : ℕ) → In q (take P.depth m) → p < q))
        → In p (take P.depth m)
    go (inl j) = j
    go (inr (e, f)) =
        let h = recent (take P.depth m) (falling_take P.depth m (falling_insert_all ps l d))
        (λ q k. (all q (in_take q P.depth m k), f q k)) in
        absurd (omega arith)

-- a WRITE arrives
pub write_arrives : (P : Plan) (w : Write) (b : ℕ) → In w P.writes
    → In w.pair (writes_in P (w.begun + P.delay w.begun P.n b) b)
unfolding writes_in
write_arrives P w b i =
    map_in (λ (w : Write). w.pair) w (filter (λ v. eqb (v.begun + P.delay v.begun P.n b) t) P.writes)
    (filter_in (λ (v : Write). eqb (v.begun + P.delay v.begun P.n b) t) w P.writes i (eqb_refl t))
  where
    t : ℕ
    t = w.begun + P.delay w.begun P.n b

module _ (P : Plan) (G : register-laws.Good.Good P) where
  -- safety of the states through a tick
  pub before_safe : (t b : ℕ) → register-laws.Safety.ServerSafe P t ((t - 1) / P.period) (before P t b)
  unfolding before
  before_safe t b = (register-laws.SafetyTick.cluster_safe P G t).0 b

  pub fresh_in_safe : (t b : ℕ) (v : Claim) → In v (fresh_in P t b) → register-laws.Safety.FreshSafe P t ((t - 1) / P.period) v
  fresh_in_safe t b v i = elim (in_append v (before P t b).fresh (votes_in P t (cluster P t).log b) i) [
    | inl a ↦ (before_safe t b).fresh v a
    | inr c ↦ register-laws.SafetyTick.votes_in_safe P G t (cluster P t).log b (register-laws.SafetyTick.cluster_safe P G t).1 v c
  ]

  -- what a server that is not faulty keeps after stage 2: what it kept, what a WRITE brings, what has a quorum
  pub takes : (t b p : ℕ) → Recent P t p → T (not (is_faulty (before P t b).status))
      → In p (before P t b).kept ⊎ (In p (writes_in P t b) ⊎ T (quorum P (fresh_in P t b) (before P t b).old p))
      → In p (mid P t b).server.kept
  unfolding deliver voted_in
  takes t b p recent h how = rw ((mid_keeps P t b).0, delivered_is P t b h)
      (keep_take_in P t p recent (writes_in P t b ++ voted) x.kept (before_safe t b).falling (before_safe t b).kept all (go how))
    where
      x : Server
      x = before P t b

      named : List ℕ
      named = pairs_of (fresh_in P t b ++ x.old)

      voted : List ℕ
      voted = filter (quorum P (fresh_in P t b) x.old) named

      all : (q : ℕ) → In q (writes_in P t b ++ voted) → Genuine P t q
      all q i = elim (in_append q (writes_in P t b) voted i) [
        | inl a ↦ register-laws.SafetyTick.writes_in_genuine P G t b q a
        | inr c ↦ register-laws.Safety.voted_genuine P G t ((t - 1) / P.period) (fresh_in P t b) x.old (fresh_in_safe t b) (before_safe t b).old q
            (in_filter (quorum P (fresh_in P t b) x.old) q named c).1
      ]

      go : In p x.kept ⊎ (In p (writes_in P t b) ⊎ T (quorum P (fresh_in P t b) x.old p))
          → In p (writes_in P t b ++ voted) ⊎ In p x.kept
      go (inl i) = inr i
      go (inr (inl i)) = inl (in_left p (writes_in P t b) voted i)
      go (inr (inr q)) =
          inl (in_right p (writes_in P t b) voted
          (filter_in (quorum P (fresh_in P t b) x.old) p named (register-laws.Claims.quorum_named P (fresh_in P t b) x.old p q) q))

  -- a recent pair stays kept while the server is not faulty
  pub kept_run : (u e b p : ℕ) → b < P.n → Recent P (u + e) p → T (not (is_faulty (before P u b).status))
      → register-laws.Placements.FreeSince P b u (u + e) → In p (before P u b).kept → In p (before P (u + e) b).kept
  kept_run u zero b p l recent h f i = let e : u + 0 ≡ u = omega arith in rw e i
  kept_run u (suc e) b p l recent h f i =
      let q : u + suc e ≡ suc u + e = omega arith in
      let n = next_same P u b l h (f u (omega arith) (omega arith)) in
      let k : In p (before P (suc u) b).kept = rw n.0 (takes u b p (recent_mono P u (u + suc e) p (omega arith) recent) h (inl i)) in
      rw q (kept_run (suc u) e b p l (rw q at recent) (register-laws.Statuses.not_faulty P G u b l (f u (omega arith) (omega arith)))
      (λ v a c. f v (omega arith) (omega arith)) k)

  -- from after stage 2 of one tick to after stage 2 of a later one
  pub stays_kept : (u t b p : ℕ) → b < P.n → u ≤ t → Recent P t p → T (not (is_faulty (before P u b).status))
      → register-laws.Placements.FreeSince P b u t → In p (mid P u b).server.kept → In p (mid P t b).server.kept
  stays_kept u t b p l le recent h f i = go (ℕ_discrete u t)
    where
      go : Dec (u ≡ t) → In p (mid P t b).server.kept
      go (yes e) = rw e at i
      go (no n) =
          let pl = f u (omega arith) (omega arith) in
          let k : In p (before P (suc u) b).kept = rw (next_same P u b l h pl).0 i in
          let e : suc u + (t - suc u) ≡ t = omega arith in
          let free = register-laws.Statuses.not_faulty P G u b l pl in
          let r = rw e at (kept_run (suc u) (t - suc u) b p l (rw e recent) free (λ v x y. f v (omega arith) (omega arith)) k) in
          let t' : t ≡ suc (t - 1) = omega arith in
          let free' = register-laws.Statuses.not_faulty P G (t - 1) b l (f (t - 1) (omega arith) (omega arith)) in
          takes t b p recent (rw t' free') (inl r)

  -- a server that is not faulty from the tick before the WRITE arrives keeps its pair
  pub kept_from_write : (w : Write) (t b : ℕ) → In w P.writes → b < P.n → Recent P t w.pair
      → w.begun + P.delay w.begun P.n b ≤ t
      → ((v : ℕ) → w.begun + P.delay w.begun P.n b ≤ v + 1 → v < t → T (not (P.placed (v / P.period) b)))
      → In w.pair (mid P t b).server.kept
  kept_from_write w t b i l recent le f =
      let a : ℕ = w.begun + P.delay w.begun P.n b in
      let e : a ≡ suc (a - 1) = omega (arith, G.delay_lo w.begun P.n b) in
      let h : T (not (is_faulty (before P a b).status)) = rw e (register-laws.Statuses.not_faulty P G (a - 1) b l (f (a - 1) (omega arith) (omega arith))) in
      stays_kept a t b w.pair l le recent h (λ v x y. f v (omega arith) y)
      (takes a b w.pair (recent_mono P a t w.pair le recent) h (inr (inl (write_arrives P w b i))))
