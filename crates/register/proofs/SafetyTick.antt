-- Safety of the cluster: what arrives in a tick is safe, and so each tick keeps every server and the log safe. Every pair that a server
-- keeps, or itself sends, is genuine. It stands on Safety.
use mathlib.Core.Path.{◌≡◌}
use mathlib.Core.Bool.{Bool, true, false, not, ◌&&◌, cond}
use mathlib.Core.Logic.{◌⊎◌, inl, inr}
use mathlib.Core.List.{List, [], ◌∷◌, ◌++◌, map}
use Prim.Native.Nat.{ℕ, zero, suc, ◌+◌, ◌-◌, ◌/◌}
use native.Mathlib.Omega.{arith}
use lib.Dec.{eqb, eqb→eq}
use lib.ListN.{get_or}
use Rattle.register.specs.Lists.{tab, flat, filter, In}
use Rattle.register.specs.Plan.{Write, Forgery, Plan}
use Rattle.register.specs.Server.{faulty, Claim, claim_of, Server, Sent, nothing, Out, stage1, stage2, blank, stage3}
use Rattle.register.specs.Cluster.{Cluster, Log, sent_in, writes_in, reads_in, votes_from, forged_in, votes_in, step, first, server_of, tick, cluster}
use Rattle.register.proofs.Logic.{and_r}
use Rattle.register.proofs.Lists.{in_append, in_filter, in_flat, in_tab_from, get_d_all, get_d_append_all, in_map}
use Rattle.register.proofs.Good.{Good}
use Rattle.register.proofs.Placements.{Near, not_moving, sent_near, period_step}
use Rattle.register.proofs.Genuine.{Genuine, genuine_initial, genuine_write, genuine_mono}
use Rattle.register.proofs.Safety.{FreshSafe, ServerSafe, SentSafe, OutSafe, blank_safe, nothing_safe, stage1_safe, stage2_safe, stage4_safe, stage3_safe}

-- what was sent before tick t
abbrev pub LogSafe : Plan → ℕ → Log → Type 0
LogSafe P t log = (u i : ℕ) → SentSafe P t (sent_in log u i)

-- the cluster before tick t
abbrev pub ClusterSafe : Plan → ℕ → Cluster → Type 0
ClusterSafe P t c = ((b : ℕ) → ServerSafe P t ((t - 1) / P.period) (server_of c b)) × LogSafe P t c.log

module _ (P : Plan) (G : Good P) (t : ℕ) where
  pub writes_in_genuine : (b p : ℕ) → In p (writes_in P t b) → Genuine P t p
  unfolding writes_in
  writes_in_genuine b p i =
      let m = in_map (λ (w : Write). w.pair) p (filter (λ w. eqb (w.begun + P.delay w.begun P.n b) t) P.writes) i in
      let w = m.0 in
      let r = in_filter (λ (w : Write). eqb (w.begun + P.delay w.begun P.n b) t) w P.writes m.1 in
      let e = eqb→eq (w.begun + P.delay w.begun P.n b) t r.1 in
      rw m.2 (genuine_write P t w r.0 (omega (arith, G.delay_lo w.begun P.n b)))

  pub forged_in_safe : (b : ℕ) (v : Claim) → In v (forged_in P t b) → FreshSafe P t ((t - 1) / P.period) v
  unfolding forged_in claim_of
  forged_in_safe b v i =
      let m = in_map (λ (g : Forgery). claim_of g.from g.pair) v (filter here P.forged) i in
      let g = m.0 in
      let r = in_filter here g P.forged m.1 in
      let e = eqb→eq (arrival g) t (and_r (eqb g.to b) (eqb (arrival g) t) r.1) in
      let n = sent_near P G t g.at (omega (arith, G.delay_lo g.at g.from b)) (omega (arith, G.delay_hi g.at g.from b)) in
      rw m.2 (inr (g.at / P.period, n.0, n.1, G.forger g r.0))
    where
      arrival : Forgery → ℕ
      arrival g = g.at + P.delay g.at g.from b

      here : Forgery → Bool
      here g = eqb g.to b && eqb (arrival g) t

  pub votes_from_safe : (log : Log) (b u i : ℕ) → LogSafe P t log → (v : Claim) → In v (votes_from P t log b u i) → Genuine P t v.pair
  unfolding votes_from claim_of
  votes_from_safe log b u i safe v h = go (not (eqb i b) && eqb (u + P.delay u i b) t) h
    where
      go : (a : Bool) → In v (cond a (map (claim_of i) (sent_in log u i).votes) []) → Genuine P t v.pair
      go false h = absurd h
      go true h = let m = in_map (claim_of i) v (sent_in log u i).votes h in rw m.2 ((safe u i).votes m.0 m.1)

  pub votes_in_safe : (log : Log) (b : ℕ) → LogSafe P t log → (v : Claim) → In v (votes_in P t log b) → FreshSafe P t ((t - 1) / P.period) v
  unfolding votes_in
  votes_in_safe log b safe v i = go (in_append v (flat t (λ u. flat P.n (λ i. votes_from P t log b u i))) (forged_in P t b) i)
    where
      go : In v (flat t (λ u. flat P.n (λ i. votes_from P t log b u i))) ⊎ In v (forged_in P t b) → FreshSafe P t ((t - 1) / P.period) v
      go (inr h) = forged_in_safe b v h
      go (inl h) =
          let r = in_flat v t (λ u. flat P.n (λ i. votes_from P t log b u i)) h in
          let s = in_flat v P.n (λ i. votes_from P t log b r.0 i) r.2 in
          inl (votes_from_safe log b r.0 s.0 safe v s.2)

  -- after stages 1 and 2
  pub mid_safe : (b : ℕ) (log : Log) (x : Server) → ServerSafe P t ((t - 1) / P.period) x → LogSafe P t log
      → OutSafe P t ((t - 1) / P.period) (stage2 P t (stage1 P x (writes_in P t b) (votes_in P t log b) (reads_in P t b)))
  mid_safe b log x safe lsafe =
      stage2_safe P G t ((t - 1) / P.period) (stage1 P x (writes_in P t b) (votes_in P t log b) (reads_in P t b))
      (stage1_safe P G t ((t - 1) / P.period) x (writes_in P t b) (votes_in P t log b) (reads_in P t b) safe (writes_in_genuine b)
      (votes_in_safe log b lsafe))

  -- after the whole tick
  pub step_safe : (b : ℕ) (log : Log) (x : Server) → ServerSafe P t ((t - 1) / P.period) x → LogSafe P t log
      → OutSafe P t (t / P.period) (step P t b log x)
  unfolding step
  step_safe b log x safe lsafe =
      let a = period_step P G t in
      let o : Out = stage2 P t (stage1 P x (writes_in P t b) (votes_in P t log b) (reads_in P t b)) in
      stage4_safe P G t (t / P.period) (stage3 P t b o)
      (stage3_safe P t ((t - 1) / P.period) (t / P.period) b o a.0 a.1 (λ h. a.2 (not_moving P t h)) (mid_safe b log x safe lsafe))

module _ (P : Plan) (t : ℕ) where
  fresh-mono : (c : ℕ) (v : Claim) → FreshSafe P t c v → FreshSafe P (suc t) c v
  fresh-mono c v (inl g) = inl (genuine_mono P t (suc t) v.pair (omega arith) g)
  fresh-mono c v (inr h) = inr h

  old-mono : (c : ℕ) (v : Claim) → Genuine P t v.pair ⊎ Near P c 2 v.from → Genuine P (suc t) v.pair ⊎ Near P c 2 v.from
  old-mono c v (inl g) = inl (genuine_mono P t (suc t) v.pair (omega arith) g)
  old-mono c v (inr h) = inr h

  pub server_mono : (c : ℕ) (x : Server) → ServerSafe P t c x → ServerSafe P (suc t) c x
  server_mono c x safe = record {
    kept = λ p i. genuine_mono P t (suc t) p (omega arith) (safe.kept p i);
    falling = safe.falling;
    fresh = λ v i. fresh-mono c v (safe.fresh v i);
    old = λ v i. ((safe.old v i).0, old-mono c v (safe.old v i).1);
  }

  pub sent_mono : (s : Sent) → SentSafe P t s → SentSafe P (suc t) s
  sent_mono s safe = record {
    votes = λ p i. genuine_mono P t (suc t) p (omega arith) (safe.votes p i);
    reply_with = λ p i. genuine_mono P t (suc t) p (omega arith) (safe.reply_with p i);
  }

module _ (P : Plan) (G : Good P) where
  pub tick_safe : (t : ℕ) (c : Cluster) → ClusterSafe P t c → ClusterSafe P (suc t) (tick P t c)
  unfolding tick server_of sent_in
  tick_safe t c (safe, lsafe) = (servers-safe, log-safe)
    where
      outs : List Out
      outs = tab P.n (λ b. step P t b c.log (server_of c b))

      outs-safe : (o : Out) → In o outs → OutSafe P t (t / P.period) o
      outs-safe o i =
          let r = in_tab_from o 0 P.n (λ b. step P t b c.log (server_of c b)) i in
          rw r.2 (step_safe P G t r.0 c.log (server_of c r.0) (safe r.0) lsafe)

      servers-safe : (b : ℕ) → ServerSafe P (suc t) ((suc t - 1) / P.period) (get_or (map (λ (o : Out). o.server) outs) b (blank faulty))
      servers-safe b =
          let e : suc t - 1 ≡ t = omega arith in
          rw e (get_d_all (λ (x : Server). ServerSafe P (suc t) (t / P.period) x) (map (λ (o : Out). o.server) outs) (blank faulty)
          (λ x i. let r = in_map (λ (o : Out). o.server) x outs i in
          rw r.2 (server_mono P t (t / P.period) r.0.server (outs-safe r.0 r.1).server))
          (blank_safe P (suc t) (t / P.period) faulty) b)

      row-safe : (i : ℕ) → SentSafe P (suc t) (get_or (map (λ (o : Out). o.sent) outs) i nothing)
      row-safe i =
          get_d_all (λ (x : Sent). SentSafe P (suc t) x) (map (λ (o : Out). o.sent) outs) nothing
          (λ x j. let r = in_map (λ (o : Out). o.sent) x outs j in rw r.2 (sent_mono P t r.0.sent (outs-safe r.0 r.1).sent))
          (nothing_safe P (suc t)) i

      rows : (u i : ℕ) → SentSafe P (suc t) (get_or (get_or (map (λ (o : Out). o.sent) outs ∷ []) u []) i nothing)
      rows zero i = row-safe i
      rows (suc u) i = nothing_safe P (suc t)

      log-safe : (u i : ℕ) → SentSafe P (suc t) (get_or (get_or (c.log ++ (map (λ (o : Out). o.sent) outs ∷ [])) u []) i nothing)
      log-safe u =
          get_d_append_all (λ (row : List Sent). (i : ℕ) → SentSafe P (suc t) (get_or row i nothing)) c.log
          (map (λ (o : Out). o.sent) outs ∷ []) []
          (λ v i. sent_mono P t (sent_in c.log v i) (lsafe v i)) rows u

  pub cluster_safe : (t : ℕ) → ClusterSafe P t (cluster P t)
  unfolding cluster server_of sent_in
  cluster_safe zero = (
    λ b. get_d_all (λ (x : Server). ServerSafe P 0 ((0 - 1) / P.period) x) (tab P.n (λ b. first P)) (blank faulty)
        (λ x i. rw (in_tab_from x 0 P.n (λ b. first P) i).2 first-safe)
        (blank_safe P 0 ((0 - 1) / P.period) faulty) b,
    (λ u i. nothing_safe P 0),
  )
    where
      only : (p : ℕ) → In p (P.initial ∷ []) → Genuine P 0 p
      only p (inl e) = rw e (genuine_initial P 0)
      only p (inr i) = absurd i

      first-safe : ServerSafe P 0 ((0 - 1) / P.period) (first P)
      first-safe = record { kept = only; falling = (λ q i. absurd i, tt); fresh = λ p i. absurd i; old = λ p i. absurd i }
  cluster_safe (suc t) = tick_safe t (cluster P t) (cluster_safe t)

  -- what a server replied with in a tick before t is genuine
  pub reply_genuine : (t u b p : ℕ) → In p (sent_in (cluster P t).log u b).reply_with → Genuine P t p
  reply_genuine t u b p i = ((cluster_safe t).1 u b).reply_with p i
