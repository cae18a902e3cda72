-- Safety of one server: what it keeps, has as votes and sends is genuine, or comes from a server that was faulty near by. The stages keep
-- that, since 2f+1 fresh votes, or (k+1)f+1 of the last k periods, include one of a server that was not faulty.
-- It stands on Good alone, not on Enough.
use mathlib.Core.Path.{◌≡◌}
use mathlib.Core.Bool.{Bool, true, false, not, ◌&&◌, ◌||◌}
use mathlib.Core.Logic.{◌⊎◌, inl, inr}
use mathlib.Core.List.{List, [], ◌++◌}
use Prim.Native.Nat.{ℕ, ◌+◌, ◌/◌, ◌≤◌, ◌<◌}
use native.Mathlib.Omega.{arith}
use lib.Dec.{T, leb, eqb, eqb→eq, leb→le, T_not}
use Rattle.register.specs.Lists.{count, In}
use Rattle.register.specs.Plan.{Read, Plan, kk, echo_quorum, reply_quorum, is_move}
use Rattle.register.specs.Server.{Status, faulty, cured, is_faulty, is_correct, cured_at, Claim, has, pairs_of, Server, Sent, nothing, Out, take_in, quorum, voted_in, deliver, stage1, stage2, blank, moved, stage3, stage4}
use Rattle.register.proofs.Logic.{or_e, cond_e}
use Rattle.register.proofs.Lists.{in_append, in_filter}
use Rattle.register.proofs.Counting.{count_pick}
use Rattle.register.proofs.Good.{Good, k_pos}
use Rattle.register.proofs.Placements.{Near, near, near_in, near_few}
use Rattle.register.proofs.Genuine.{Genuine}
use Rattle.register.proofs.Stores.{Falling, in_take_in, falling_take_in}
use Rattle.register.proofs.Claims.{has_in}

-- a vote of the present period, in which placement c is in force; and one of the period before
abbrev pub FreshSafe : Plan → ℕ → ℕ → Claim → Type 0
FreshSafe P t c v = Genuine P t v.pair ⊎ Near P c 1 v.from

abbrev pub OldSafe : Plan → ℕ → ℕ → Claim → Type 0
OldSafe P t c v = (kk P ≡ 2) × (Genuine P t v.pair ⊎ Near P c 2 v.from)

pub record ServerSafe (P : Plan) (t c : ℕ) (x : Server) : Type 0 where
  pub kept : (p : ℕ) → In p x.kept → Genuine P t p
  pub falling : Falling x.kept
  pub fresh : (v : Claim) → In v x.fresh → FreshSafe P t c v
  pub old : (v : Claim) → In v x.old → OldSafe P t c v

pub record SentSafe (P : Plan) (t : ℕ) (s : Sent) : Type 0 where
  pub votes : (p : ℕ) → In p s.votes → Genuine P t p
  pub reply_with : (p : ℕ) → In p s.reply_with → Genuine P t p

pub record OutSafe (P : Plan) (t c : ℕ) (o : Out) : Type 0 where
  pub server : ServerSafe P t c o.server
  pub sent : SentSafe P t o.sent

pub blank_safe : (P : Plan) (t c : ℕ) (s : Status) → ServerSafe P t c (blank s)
blank_safe P t c s = record { kept = λ p i. absurd i; falling = tt; fresh = λ p i. absurd i; old = λ p i. absurd i }

pub nothing_safe : (P : Plan) (t : ℕ) → SentSafe P t nothing
nothing_safe P t = record { votes = λ p i. absurd i; reply_with = λ p i. absurd i }

module _ (P : Plan) (G : Good P) (t c : ℕ) where
  -- a vote of a server outside the placements near by is for a genuine pair
  pub fresh_genuine : (vs : List Claim) → ((v : Claim) → In v vs → FreshSafe P t c v) → (m p i : ℕ) → 1 ≤ m → T (has vs p i)
      → T (not (near P c m i)) → Genuine P t p
  fresh_genuine vs safe m p i l h q =
      let r = has_in vs p i h in
      go r.0 r.2 r.3 (safe r.0 r.1)
    where
      go : (v : Claim) → v.pair ≡ p → v.from ≡ i → FreshSafe P t c v → Genuine P t p
      go v e d (inl g) = rw e at g
      go v e d (inr (j, a, b, k)) = absurd (T_not (near P c m i) q (near_in P c m i (j, a, omega arith, rw d at k)))

  pub old_genuine : (vs : List Claim) → ((v : Claim) → In v vs → OldSafe P t c v) → (p i : ℕ) → T (has vs p i)
      → T (not (near P c (kk P) i)) → Genuine P t p
  old_genuine vs safe p i h q =
      let r = has_in vs p i h in
      go r.0 r.2 r.3 (safe r.0 r.1).0 (safe r.0 r.1).1
    where
      go : (v : Claim) → v.pair ≡ p → v.from ≡ i → kk P ≡ 2 → Genuine P t v.pair ⊎ Near P c 2 v.from → Genuine P t p
      go v e d k2 (inl g) = rw e at g
      go v e d k2 (inr (j, a, b, k)) = absurd (T_not (near P c (kk P) i) q (near_in P c (kk P) i (j, a, omega arith, rw d at k)))

  -- 2f+1 fresh votes, or (k+1)f+1 of the last k periods, include one of a server that was not faulty near by
  pub honest_fresh : (fresh : List Claim) (p : ℕ) → echo_quorum P ≤ count (λ i. has fresh p i) P.n
      → (i : ℕ) × (i < P.n) × T (has fresh p i) × T (not (near P c 1 i))
  honest_fresh fresh p h = count_pick (λ i. has fresh p i) (near P c 1) P.n (omega (arith, near_few P G c 1))

  pub honest_recent : (fresh old : List Claim) (p : ℕ) → reply_quorum P ≤ count (λ i. has fresh p i || has old p i) P.n
      → (i : ℕ) × (i < P.n) × T (has fresh p i || has old p i) × T (not (near P c (kk P) i))
  honest_recent fresh old p h =
      count_pick (λ i. has fresh p i || has old p i) (near P c (kk P)) P.n (omega (arith, near_few P G c (kk P)))

  -- so a pair with a quorum is genuine
  pub voted_genuine : (fresh old : List Claim) → ((v : Claim) → In v fresh → FreshSafe P t c v) → ((v : Claim) → In v old → OldSafe P t c v)
      → (p : ℕ) → T (quorum P fresh old p) → Genuine P t p
  unfolding quorum
  voted_genuine fresh old fs os p q = go (or_e (leb (echo_quorum P) voters) (leb (reply_quorum P) recent) q)
    where
      voters : ℕ
      voters = count (λ i. has fresh p i) P.n

      recent : ℕ
      recent = count (λ i. has fresh p i || has old p i) P.n

      both : (i : ℕ) → T (not (near P c (kk P) i)) → T (has fresh p i) ⊎ T (has old p i) → Genuine P t p
      both i h (inl a) = fresh_genuine fresh fs (kk P) p i (k_pos P) a h
      both i h (inr b) = old_genuine old os p i b h

      go : T (leb (echo_quorum P) voters) ⊎ T (leb (reply_quorum P) recent) → Genuine P t p
      go (inl h) =
          let r = honest_fresh fresh p (leb→le (echo_quorum P) voters h) in
          fresh_genuine fresh fs 1 p r.0 (omega arith) r.2 r.3
      go (inr h) =
          let r = honest_recent fresh old p (leb→le (reply_quorum P) recent h) in
          both r.0 r.3 (or_e (has fresh p r.0) (has old p r.0) r.2)

  pub voted_in_genuine : (fresh old : List Claim) → ((v : Claim) → In v fresh → FreshSafe P t c v)
      → ((v : Claim) → In v old → OldSafe P t c v)
      → (p : ℕ) → In p (voted_in P fresh old) → Genuine P t p
  unfolding voted_in
  voted_in_genuine fresh old fs os p i = voted_genuine fresh old fs os p (in_filter (quorum P fresh old) p (pairs_of (fresh ++ old)) i).1

  pub deliver_safe : (x : Server) (ws : List ℕ) (vs : List Claim) (rs : List Read) → ServerSafe P t c x
      → ((p : ℕ) → In p ws → Genuine P t p) → ((v : Claim) → In v vs → FreshSafe P t c v) → OutSafe P t c (deliver P x ws vs rs)
  unfolding deliver
  deliver_safe x ws vs rs safe wsafe vsafe =
      record {
        server = record {
          kept = kept-safe;
          falling = falling_take_in P.depth (ws ++ voted) x.kept safe.falling;
          fresh = fresh-safe;
          old = safe.old;
        };
        sent = record { votes = wsafe; reply_with = kept-safe };
      }
    where
      fresh-safe : (v : Claim) → In v (x.fresh ++ vs) → FreshSafe P t c v
      fresh-safe v i = elim (in_append v x.fresh vs i) [ inl a ↦ safe.fresh v a | inr b ↦ vsafe v b ]

      voted : List ℕ
      voted = voted_in P (x.fresh ++ vs) x.old

      voted-safe : (p : ℕ) → In p voted → Genuine P t p
      voted-safe = voted_in_genuine (x.fresh ++ vs) x.old fresh-safe safe.old

      kept-safe : (p : ℕ) → In p (take_in P.depth (ws ++ voted) x.kept) → Genuine P t p
      kept-safe p i = elim (in_take_in p P.depth (ws ++ voted) x.kept i) [
        | inl a ↦ elim (in_append p ws voted a) [ inl w ↦ wsafe p w | inr q ↦ voted-safe p q ]
        | inr b ↦ safe.kept p b
      ]

  pub stage1_safe : (x : Server) (ws : List ℕ) (vs : List Claim) (rs : List Read) → ServerSafe P t c x
      → ((p : ℕ) → In p ws → Genuine P t p) → ((v : Claim) → In v vs → FreshSafe P t c v) → OutSafe P t c (stage1 P x ws vs rs)
  unfolding stage1
  stage1_safe x ws vs rs safe wsafe vsafe =
      cond_e (λ (o : Out). OutSafe P t c o) (is_faulty x.status) (record { server = x; sent = nothing }) (deliver P x ws vs rs)
      (λ h. record { server = safe; sent = nothing_safe P t })
      (λ h. deliver_safe x ws vs rs safe wsafe vsafe)

  pub stage2_safe : (o : Out) → OutSafe P t c o → OutSafe P t c (stage2 P t o)
  unfolding stage2
  stage2_safe o safe =
      cond_e (λ (u : Out). OutSafe P t c u) (cured_at P.delta t o.server.status) _ o
      (λ h. record {
        server = record {
          kept = safe.server.kept;
          falling = safe.server.falling;
          fresh = safe.server.fresh;
          old = safe.server.old;
        };
        sent = record { votes = safe.sent.votes; reply_with = safe.server.kept };
      })
      (λ h. safe)

  pub stage4_safe : (o : Out) → OutSafe P t c o → OutSafe P t c (stage4 P t o)
  unfolding stage4
  stage4_safe o safe =
      cond_e (λ (u : Out). OutSafe P t c u) (is_move P t && is_correct o.server.status) _ o
      (λ h. record {
        server = safe.server;
        sent = record { votes = votes-safe; reply_with = safe.sent.reply_with };
      })
      (λ h. safe)
    where
      votes-safe : (p : ℕ) → In p (o.sent.votes ++ o.server.kept) → Genuine P t p
      votes-safe p i =
          elim (in_append p o.sent.votes o.server.kept i) [ inl a ↦ safe.sent.votes p a | inr b ↦ safe.server.kept p b ]

-- a movement: the fresh votes of period c become the old ones of c', the next period (or, at tick 0, the same)
pub moved_safe : (P : Plan) (t c c' : ℕ) (h : Bool) (x : Server) → c ≤ c' → c' ≤ c + 1 → ServerSafe P t c x
    → ServerSafe P t c' (moved P t h x)
unfolding moved
moved_safe P t c c' true x l u safe = blank_safe P t c' faulty
moved_safe P t c c' false x l u safe =
    cond_e (λ (y : Server). ServerSafe P t c' y) (is_faulty x.status) _ _
    (λ h. blank_safe P t c' (cured t))
    (λ h. record {
      kept = safe.kept;
      falling = safe.falling;
      fresh = λ p i. absurd i;
      old = cond_e Olds (eqb (kk P) 2) x.fresh [] keep (λ k v i. absurd i);
    })
  where
    Olds : List Claim → Type 0
    Olds l = (v : Claim) → In v l → OldSafe P t c' v

    wide : (v : Claim) → FreshSafe P t c v → Genuine P t v.pair ⊎ Near P c' 2 v.from
    wide v (inl g) = inl g
    wide v (inr (j, a, b, k)) = inr (j, omega arith, omega arith, k)

    keep : T (eqb (kk P) 2) → Olds x.fresh
    keep k v i = (eqb→eq (kk P) 2 k, wide v (safe.fresh v i))

pub stage3_safe : (P : Plan) (t c c' b : ℕ) (o : Out) → c ≤ c' → c' ≤ c + 1 → (T (not (is_move P t)) → c' ≡ c) → OutSafe P t c o
    → OutSafe P t c' (stage3 P t b o)
unfolding stage3
stage3_safe P t c c' b o l u same safe =
    cond_e (λ (u : Out). OutSafe P t c' u) (is_move P t) _ o
    (λ h. record { server = moved_safe P t c c' (P.placed (t / P.period) b) o.server l u safe.server; sent = safe.sent })
    (λ h. rw (same h) safe)
