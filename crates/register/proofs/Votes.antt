-- Votes: a vote that is sent arrives, and is counted in the period of its arrival and, where k is 2, in the one after. So enough votes sent
-- since a movement make a quorum. It stands on Keeping, not on Enough.
use mathlib.Core.Path.{◌≡◌, sym, ap, ◌∙◌}
use mathlib.Core.Bool.{Bool, not, ◌&&◌, ◌||◌}
use mathlib.Core.Logic.{◌⊎◌, inl, inr, ◌≢◌}
use mathlib.Core.List.{List}
use Prim.Native.Nat.{ℕ, zero, suc, ◌+◌, ◌*◌, ◌-◌, ◌/◌, ◌≤◌, ◌<◌}
use native.Mathlib.Omega.{arith}
use native.Mathlib.Decide.{ℕ_discrete}
use lib.Dec.{T, leb, eqb, eqb→eq, eqb_refl, le→leb, not_T}
use Rattle.register.specs.Lists.{count, flat, In}
use Rattle.register.specs.Plan.{Plan, kk, echo_quorum, reply_quorum, is_move}
use Rattle.register.specs.Server.{is_faulty, Claim, claim_of, has, quorum}
use Rattle.register.specs.Cluster.{Log, votes_from, forged_in, votes_in, cluster}
use Rattle.register.proofs.Logic.{and_i, or_l, or_r, test, cond_t}
use Rattle.register.proofs.Lists.{in_left, in_right, flat_in, map_in}
use Rattle.register.proofs as register-laws
use Rattle.register.proofs.Placements.{not_moving, moving, period_lo, period_mono, period_suc}
use Rattle.register.proofs.Claims.{in_has}
use Rattle.register.proofs.Trace.{before, mid, end, fresh_in, sent_row}
use Rattle.register.proofs.Stages.{next_same, mid_lists}
use Rattle.register.proofs.Statuses.{not_faulty}

-- a vote that arrived in tick a + 1 is among these in tick u: the fresh ones in its own period, the old ones in the next
abbrev pub CountedIn : Plan → ℕ → ℕ → Claim → List Claim → List Claim → Type 0
CountedIn P a u v fresh old = (a / P.period ≡ u / P.period → In v fresh) × (a / P.period + 1 ≡ u / P.period → kk P ≡ 2 → In v old)

-- server v has voted for p since movement i, and its vote reaches b by tick u + 1
abbrev pub VotedSince : Plan → ℕ → ℕ → ℕ → ℕ → ℕ → Type 0
VotedSince P i u b p v = (s : ℕ) × (i * P.period ≤ s) × (s + P.delay s v b ≤ suc u) × In p (end P s v).sent.votes

-- voters enough for one of the two quorums, by the tick's period
abbrev pub Suffices : Plan → ℕ → ℕ → (ℕ → Bool) → Type 0
Suffices P i u W =
    ((echo_quorum P ≤ count W P.n) × (u / P.period ≡ i)) ⊎ ((reply_quorum P ≤ count W P.n) × (u / P.period ≤ i + 1) × (kk P ≡ 2))

module _ (P : Plan) (G : register-laws.Good.Good P) where
  -- a vote that arrived in tick a + 1, after tick u
  Counted : ℕ → ℕ → ℕ → Claim → Type 0
  Counted a u b v = CountedIn P a u v (before P (suc u) b).fresh (before P (suc u) b).old

  counted_step : (a u b : ℕ) (v : Claim) → b < P.n → a ≤ u → T (not (is_faulty (before P (suc u) b).status))
      → T (not (P.placed (suc u / P.period) b))
      → CountedIn P a u v (mid P (suc u) b).server.fresh (mid P (suc u) b).server.old → Counted a (suc u) b v
  unfolding Counted
  counted_step a u b v l le h g (i, j) = go (test (is_move P (suc u)))
    where
      go : T (is_move P (suc u)) ⊎ T (not (is_move P (suc u))) → Counted a (suc u) b v
      go (inl m) = let c = (period_suc P G u).1 (moving P (suc u) m) in
          let n = next_same P (suc u) b l h g in (
            (λ e. absurd (omega (arith, period_mono P G a u le, c.0))),
            (λ e k. rw (n.3 m k) (i (omega (arith, c.0)))),
          )
      go (inr m) = let c = (period_suc P G u).0 (not_moving P (suc u) m) in
          let n = next_same P (suc u) b l h g in (
            (λ e. rw (n.2 m).0 (i (e ∙ c))),
            (λ e k. rw (n.2 m).1 (j (e ∙ c) k)),
          )

  counted-run : (a e b : ℕ) (v : Claim) → b < P.n → T (not (is_faulty (before P (suc a) b).status))
      → ((w : ℕ) → a < w → w ≤ suc a + e → T (not (P.placed (w / P.period) b)))
      → In v (votes_in P (suc a) (cluster P (suc a)).log b) → Counted a (suc a + e) b v
  unfolding Counted
  counted-run a zero b v l h f i =
      let q : suc a + 0 ≡ suc a = omega arith in
      let m = mid_lists P (suc a) b h in
      rw q (counted_step a a b v l (omega arith) h (f (suc a) (omega arith) (omega arith)) (
        (λ e. rw m.0 (in_right v (before P (suc a) b).fresh (votes_in P (suc a) (cluster P (suc a)).log b) i)),
        (λ e. absurd (omega arith)),
      ))
  counted-run a (suc e) b v l h f i =
      let q : suc a + suc e ≡ suc (suc a + e) = omega arith in
      let ih = counted-run a e b v l h (λ w x y. f w x (omega arith)) i in
      let fr = not_faulty P G (suc a + e) b l (f (suc a + e) (omega arith) (omega arith)) in
      let m = mid_lists P (suc (suc a + e)) b fr in
      rw q (counted_step a (suc a + e) b v l (omega arith) fr (rw q at (f (suc a + suc e) (omega arith) (omega arith))) (
        (λ e'. rw m.0 (in_left v (before P (suc (suc a + e)) b).fresh _ (ih.0 e'))),
        (λ e' k. rw m.1 (ih.1 e' k)),
      ))

  -- a vote that arrived in tick a + 1, at the deliveries of tick u + 1
  pub vote_counted : (a u b : ℕ) (v : Claim) → b < P.n → a ≤ u → T (not (is_faulty (before P (suc a) b).status))
      → ((w : ℕ) → a < w → w ≤ u → T (not (P.placed (w / P.period) b)))
      → In v (votes_in P (suc a) (cluster P (suc a)).log b)
      → CountedIn P a u v (fresh_in P (suc u) b) (before P (suc u) b).old
  unfolding Counted
  vote_counted a u b v l le h f i = go (ℕ_discrete a u)
    where
      go : Dec (a ≡ u) → CountedIn P a u v (fresh_in P (suc u) b) (before P (suc u) b).old
      go (yes e) =
          let i' : In v (votes_in P (suc u) (cluster P (suc u)).log b) = rw e at i in (
            (λ q. in_right v (before P (suc u) b).fresh (votes_in P (suc u) (cluster P (suc u)).log b) i'),
            (λ q k. absurd (omega (arith, ap (λ (z : ℕ). z / P.period) e))),
          )
      go (no n) =
          let q : u ≡ suc a + (u - suc a) = omega arith in
          let r : Counted a u b v = rw q (counted-run a (u - suc a) b v l h (λ w x y. f w x (omega arith)) i) in
          ((λ e. in_left v (before P (suc u) b).fresh (votes_in P (suc u) (cluster P (suc u)).log b) (r.0 e)), r.1)

  -- a vote that is sent arrives
  pub vote_arrives : (s v b p : ℕ) → v < P.n → b ≢ v → In p (end P s v).sent.votes
      → In (claim_of v p) (votes_in P (s + P.delay s v b) (cluster P (s + P.delay s v b)).log b)
  unfolding votes_in votes_from
  vote_arrives s v b p l ne i =
      in_left (claim_of v p) (flat a (λ u. flat P.n (λ i. votes_from P a log b u i))) (forged_in P a b)
      (flat_in (claim_of v p) a (λ u. flat P.n (λ i. votes_from P a log b u i)) s later
      (flat_in (claim_of v p) P.n (λ i. votes_from P a log b s i) v l here))
    where
      a : ℕ
      a = s + P.delay s v b

      log : Log
      log = (cluster P a).log

      later : s < a
      later = omega (arith, G.delay_lo s v b)

      arriving : T (not (eqb v b) && eqb (s + P.delay s v b) a)
      arriving = and_i (not (eqb v b)) (eqb (s + P.delay s v b) a) (not_T (eqb v b) (λ h. ne (sym (eqb→eq v b h)))) (eqb_refl a)

      here : In (claim_of v p) (votes_from P a log b s v)
      here =
          rw (cond_t (not (eqb v b) && eqb (s + P.delay s v b) a) _ _ arriving, sent_row P a s v l later)
          (map_in (claim_of v) p (end P s v).sent.votes i)

  -- the voters W make a quorum at the deliveries of tick u + 1
  pub votes_suffice : (i u b p : ℕ) (W : ℕ → Bool) → b < P.n → i * P.period ≤ u
      → ((w : ℕ) → i * P.period ≤ w → w ≤ u → T (not (P.placed (w / P.period) b)))
      → ((v : ℕ) → v < P.n → T (W v) → (b ≢ v) × VotedSince P i u b p v) → Suffices P i u W
      → T (quorum P (fresh_in P (suc u) b) (before P (suc u) b).old p)
  unfolding quorum
  votes_suffice i u b p W l le f vote enough = go enough
    where
      fresh : List Claim
      fresh = fresh_in P (suc u) b

      old : List Claim
      old = (before P (suc u) b).old

      inFresh : ℕ → Bool
      inFresh v = has fresh p v

      inBoth : ℕ → Bool
      inBoth v = has fresh p v || has old p v

      -- where a vote is counted
      Place : ℕ → Type 0
      Place v = (a : ℕ) × (i ≤ a / P.period) × (a / P.period ≤ u / P.period) × CountedIn P a u (claim_of v p) fresh old

      place : (v : ℕ) → v < P.n → T (W v) → Place v
      place v vl t =
          let (ne, (s, m, r, k)) = vote v vl t in
          let a : ℕ = s + P.delay s v b - 1 in
          let lo = G.delay_lo s v b in
          let e : s + P.delay s v b ≡ suc a = omega arith in
          let ar : In (claim_of v p) (votes_in P (suc a) (cluster P (suc a)).log b) = rw e at (vote_arrives s v b p vl ne k) in
          let free = not_faulty P G a b l (f a (omega arith) (omega arith)) in
          let c = vote_counted a u b (claim_of v p) l (omega arith) free (λ w x y. f w (omega arith) y) ar in
          (a, period_lo P G i a (omega arith), period_mono P G a u (omega arith), c)

      one : u / P.period ≡ i → (v : ℕ) → v < P.n → T (W v) → T (inFresh v)
      one e v vl t = let r = place v vl t in in_has fresh p v (r.3.0 (omega arith))

      two : u / P.period ≤ i + 1 → kk P ≡ 2 → (v : ℕ) → v < P.n → T (W v) → T (inBoth v)
      two e k v vl t = let r = place v vl t in pick r (ℕ_discrete (r.0 / P.period) (u / P.period))
        where
          pick : (r : Place v) → Dec (r.0 / P.period ≡ u / P.period) → T (inBoth v)
          pick r (yes q) = or_l (has fresh p v) (has old p v) (in_has fresh p v (r.3.0 q))
          pick r (no q) = or_r (has fresh p v) (has old p v) (in_has old p v (r.3.1 (omega arith) k))

      go : Suffices P i u W → T (leb (echo_quorum P) (count inFresh P.n) || leb (reply_quorum P) (count inBoth P.n))
      go (inl (h, e)) = or_l (leb (echo_quorum P) (count inFresh P.n)) (leb (reply_quorum P) (count inBoth P.n))
          (le→leb (echo_quorum P) (count inFresh P.n) (omega (arith, register-laws.Counting.count_mono W inFresh P.n (one e))))
      go (inr (h, e, k)) = or_r (leb (echo_quorum P) (count inFresh P.n)) (leb (reply_quorum P) (count inBoth P.n))
          (le→leb (reply_quorum P) (count inBoth P.n) (omega (arith, register-laws.Counting.count_mono W inBoth P.n (two e k))))
