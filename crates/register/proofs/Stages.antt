-- The stages on one server, as equations between its states through a tick: what each keeps, and what a server that is not faulty sends.
-- It stands on Trace and on the definitions of the stages.
use mathlib.Core.Path.{◌≡◌, refl, ◌∙◌}
use mathlib.Core.Bool.{Bool, true, false, not, ◌&&◌, cond}
use mathlib.Core.Logic.{◌⊎◌, inl, inr}
use mathlib.Core.List.{List, [], ◌++◌}
use Prim.Native.Nat.{ℕ, suc, ◌/◌, ◌<◌}
use lib.Dec.{T, T_not}
use Rattle.register.specs.Lists.{In, same_list}
use Rattle.register.specs.Plan.{Read, Plan, kk, is_move}
use Rattle.register.specs.Server.{Status, faulty, cured, correct, is_faulty, is_correct, cured_at, Server, Out, deliver, stage1, stage2, moved, stage3, stage4}
use Rattle.register.specs.Cluster.{writes_in, reads_in, votes_in, cluster}
use Rattle.register.proofs.Logic.{and_i, F_eq, cond_e, cond_t, cond_f, cond_ap}
use Rattle.register.proofs.Lists.{in_left, in_right}
use Rattle.register.proofs.Trace.{before, delivered, mid, end, fresh_in, before_suc}

-- o has the pairs, the pending reads and the votes of o₁, and sends the same votes
abbrev pub Kept : Out → Out → Type 0
Kept o₁ o =
    (o.server.kept ≡ o₁.server.kept) × (o.server.pending ≡ o₁.server.pending) × (o.server.fresh ≡ o₁.server.fresh)
    × (o.server.old ≡ o₁.server.old) × (o.sent.votes ≡ o₁.sent.votes)

-- o sends the replies of o₁
abbrev SameReplies : Out → Out → Type 0
SameReplies o₁ o = (o.sent.reply_to ≡ o₁.sent.reply_to) × (o.sent.reply_with ≡ o₁.sent.reply_with)

-- why server b, with these pairs after stage 2 of tick t, replies to the read: it is new, the pairs changed, or it was not correct before
abbrev pub Cause : Plan → ℕ → ℕ → Read → List ℕ → Type 0
Cause P t b r kept = In r (reads_in P t b) ⊎ (T (not (same_list (before P t b).kept kept)) ⊎ T (not (is_correct (before P t b).status)))

module _ (P : Plan) where
  -- stage 1 changes no status
  pub delivered_status : (t b : ℕ) → (delivered P t b).server.status ≡ (before P t b).status
  unfolding delivered stage1 deliver
  delivered_status t b =
      cond_e (λ (o : Out). o.server.status ≡ (before P t b).status) (is_faulty (before P t b).status) _ _ (λ h. refl) (λ h. refl)

  pub mid_status : (t b : ℕ) → (mid P t b).server.status ≡ cond (cured_at P.delta t (before P t b).status) correct (before P t b).status
  unfolding mid stage2
  mid_status t b = rw (← delivered_status t b) (go (cured_at P.delta t (delivered P t b).server.status) (delivered P t b))
    where
      go : (d : Bool) (o : Out) → (let x : Server = o.server in cond d (record {
        server = record { status = correct; kept = x.kept; pending = x.pending; fresh = x.fresh; old = x.old };
        sent = record { votes = o.sent.votes; reply_to = x.pending; reply_with = x.kept };
      }) o).server.status ≡ cond d correct o.server.status
      go true o = refl
      go false o = refl

  -- stages 3 and 4 on the server
  pub stage4_server : (t : ℕ) (o : Out) → (stage4 P t o).server ≡ o.server
  unfolding stage4
  stage4_server t o = cond_e (λ (u : Out). u.server ≡ o.server) (is_move P t && is_correct o.server.status) _ o (λ h. refl) (λ h. refl)

  pub stage3_server : (t b : ℕ) (o : Out)
      → (stage3 P t b o).server ≡ cond (is_move P t) (moved P t (P.placed (t / P.period) b) o.server) o.server
  unfolding stage3
  stage3_server t b o = cond_ap (λ (u : Out). u.server) (is_move P t) _ o

  pub end_server : (t b : ℕ)
      → (end P t b).server ≡ cond (is_move P t) (moved P t (P.placed (t / P.period) b) (mid P t b).server) (mid P t b).server
  unfolding end
  end_server t b = stage4_server t (stage3 P t b (mid P t b)) ∙ stage3_server t b (mid P t b)

  pub moved_status : (t : ℕ) (h : Bool) (x : Server)
      → (moved P t h x).status ≡ cond h faulty (cond (is_faulty x.status) (cured t) x.status)
  unfolding moved
  moved_status t true x = refl
  moved_status t false x = cond_ap (λ (u : Server). u.status) (is_faulty x.status) _ _

  -- stage 2 keeps the pairs, the lists and the votes
  pub mid_keeps : (t b : ℕ) → Kept (delivered P t b) (mid P t b)
  unfolding mid stage2
  mid_keeps t b =
      cond_e (λ (o : Out). Kept (delivered P t b) o) (cured_at P.delta t (delivered P t b).server.status) _ (delivered P t b)
      (λ h. (refl, refl, refl, refl, refl)) (λ h. (refl, refl, refl, refl, refl))

  pub delivered_is : (t b : ℕ) → T (not (is_faulty (before P t b).status))
      → delivered P t b ≡ deliver P (before P t b) (writes_in P t b) (votes_in P t (cluster P t).log b) (reads_in P t b)
  unfolding delivered stage1
  delivered_is t b h = cond_f (is_faulty (before P t b).status) _ _ h

  pub mid_not_faulty : (t b : ℕ) → T (not (is_faulty (before P t b).status)) → T (not (is_faulty (mid P t b).server.status))
  mid_not_faulty t b h =
      rw (mid_status t b)
      (cond_e (λ (s : Status). T (not (is_faulty s))) (cured_at P.delta t (before P t b).status) correct (before P t b).status (λ u. tt)
      (λ u. h))

  -- stage 3 on a server that is not faulty before or after
  pub next_same : (t b : ℕ) → b < P.n → T (not (is_faulty (before P t b).status)) → T (not (P.placed (t / P.period) b))
      → ((before P (suc t) b).kept ≡ (mid P t b).server.kept) × ((before P (suc t) b).pending ≡ (mid P t b).server.pending)
      × (T (not (is_move P t)) → ((before P (suc t) b).fresh ≡ (mid P t b).server.fresh) × ((before P (suc t) b).old ≡ (mid P t b).server.old))
      × (T (is_move P t) → kk P ≡ 2 → (before P (suc t) b).old ≡ (mid P t b).server.fresh)
      × ((before P (suc t) b).status ≡ (mid P t b).server.status)
  unfolding moved
  next_same t b l h g = rw (before_suc P t b l, end_server t b)
      (cond_e (λ (x : Server). (x.kept ≡ m.kept) × (x.pending ≡ m.pending)
      × (T (not (is_move P t)) → (x.fresh ≡ m.fresh) × (x.old ≡ m.old))
      × (T (is_move P t) → kk P ≡ 2 → x.old ≡ m.fresh) × (x.status ≡ m.status)) (is_move P t) _ _
      (λ u. rw (F_eq (P.placed (t / P.period) b) g, cond_f (is_faulty m.status) _ _ (mid_not_faulty t b h))
      (refl, refl, (λ v. absurd (T_not (is_move P t) v u)), (λ v e. rw e), refl))
      (λ u. (refl, refl, (λ v. (refl, refl)), (λ v. absurd (T_not (is_move P t) u v)), refl)))
    where
      m : Server
      m = (mid P t b).server

  -- after tick t: the server as stage 3 leaves it
  pub before_stage3 : (t b : ℕ) → b < P.n → before P (suc t) b ≡ (stage3 P t b (mid P t b)).server
  unfolding end
  before_stage3 t b l = before_suc P t b l ∙ stage4_server t (stage3 P t b (mid P t b))

  pub end_replies : (t b : ℕ) → SameReplies (mid P t b) (end P t b)
  unfolding end stage4 stage3
  end_replies t b = rw ((go4 (stage3 P t b (mid P t b))).0, (go4 (stage3 P t b (mid P t b))).1) (go3 (mid P t b))
    where
      go4 : (o : Out) → SameReplies o (stage4 P t o)
      go4 o =
          cond_e (λ (u : Out). SameReplies o u) (is_move P t && is_correct o.server.status) _ o (λ h. (refl, refl)) (λ h. (refl, refl))

      go3 : (o : Out) → SameReplies o (stage3 P t b o)
      go3 o = cond_e (λ (u : Out). SameReplies o u) (is_move P t) _ o (λ h. (refl, refl)) (λ h. (refl, refl))

  pub reply_is_kept : (t b : ℕ) → T (not (is_faulty (before P t b).status)) → (mid P t b).sent.reply_with ≡ (mid P t b).server.kept
  unfolding mid stage2 deliver
  reply_is_kept t b h =
      cond_e (λ (o : Out). o.sent.reply_with ≡ o.server.kept) (cured_at P.delta t (delivered P t b).server.status) _
      (delivered P t b) (λ u. refl) (λ u. rw (delivered_is t b h))

  -- a server that is correct after stage 2 replies to a pending read if it has cause to
  pub replies_to_lem : (t b : ℕ) (r : Read) → T (not (is_faulty (before P t b).status)) → T (is_correct (mid P t b).server.status)
      → In r (mid P t b).server.pending → Cause P t b r (mid P t b).server.kept → In r (mid P t b).sent.reply_to
  unfolding mid stage2 deliver
  replies_to_lem t b r h s i why =
      cond_e Replies
      (cured_at P.delta t (delivered P t b).server.status) _ (delivered P t b)
      (λ u s i why. i)
      (λ u. rw (delivered_is t b h) (λ s i why. pick (is_correct (before P t b).status) (same_list (before P t b).kept _) _ s i why))
      s i why
    where
      Replies : Out → Type 0
      Replies o = T (is_correct o.server.status) → In r o.server.pending → Cause P t b r o.server.kept → In r o.sent.reply_to

      pick : (a c : Bool) (rs : List Read) → T a → In r rs → In r (reads_in P t b) ⊎ (T (not c) ⊎ T (not a))
          → In r (cond a (cond c (reads_in P t b) rs) [])
      pick false c rs s i why = absurd s
      pick true false rs s i why = i
      pick true true rs s i (inl k) = k
      pick true true rs s i (inr (inl k)) = absurd k
      pick true true rs s i (inr (inr k)) = absurd k

  pub mid_lists : (t b : ℕ) → T (not (is_faulty (before P t b).status)) → ((mid P t b).server.fresh ≡ fresh_in P t b)
      × ((mid P t b).server.old ≡ (before P t b).old) × ((mid P t b).server.pending ≡ (before P t b).pending ++ reads_in P t b)
  unfolding deliver
  mid_lists t b h = let m = mid_keeps t b in rw (m.1, m.2, m.3, delivered_is t b h) (refl, refl, refl)

  -- what a server sends: its echo, and the vote for a WRITE
  pub echo_sent : (t b p : ℕ) → b < P.n → T (is_move P t) → T (is_correct (before P (suc t) b).status) → In p (before P (suc t) b).kept
      → In p (end P t b).sent.votes
  unfolding end stage4
  echo_sent t b p l m s i = go (stage3 P t b (mid P t b)) (before_stage3 t b l)
    where
      go : (o : Out) → before P (suc t) b ≡ o.server → In p (stage4 P t o).sent.votes
      go o e =
          rw (cond_t (is_move P t && is_correct o.server.status) _ o (and_i (is_move P t) (is_correct o.server.status) m (rw e at s)))
          (in_right p o.sent.votes o.server.kept (rw e at i))

  pub write_voted : (t b p : ℕ) → T (not (is_faulty (before P t b).status)) → In p (writes_in P t b) → In p (end P t b).sent.votes
  unfolding end stage4 stage3 deliver
  write_voted t b p h i = go (stage3 P t b (mid P t b)) (go3 (mid P t b) (rw ((mid_keeps t b).4, delivered_is t b h) i))
    where
      go : (o : Out) → In p o.sent.votes → In p (stage4 P t o).sent.votes
      go o k =
          cond_e (λ (u : Out). In p u.sent.votes) (is_move P t && is_correct o.server.status) _ o
          (λ h. in_left p o.sent.votes o.server.kept k) (λ h. k)

      go3 : (o : Out) → In p o.sent.votes → In p (stage3 P t b o).sent.votes
      go3 o k = cond_e (λ (u : Out). In p u.sent.votes) (is_move P t) _ o (λ h. k) (λ h. k)

  -- a server that is correct at the end of a tick was so after stage 2, with the same pairs
  pub end_correct : (t b : ℕ) → b < P.n → T (is_correct (before P (suc t) b).status)
      → T (is_correct (mid P t b).server.status) × ((before P (suc t) b).kept ≡ (mid P t b).server.kept)
  unfolding moved
  end_correct t b l = rw (before_suc P t b l, end_server t b)
      (cond_e (λ (x : Server). T (is_correct x.status) → T (is_correct m.status) × (x.kept ≡ m.kept)) (is_move P t) _ _
      (λ u. placed (P.placed (t / P.period) b))
      (λ u h. (h, refl)))
    where
      m : Server
      m = (mid P t b).server

      placed : (h : Bool) → T (is_correct (moved P t h m).status) → T (is_correct m.status) × ((moved P t h m).kept ≡ m.kept)
      placed true = λ c. absurd c
      placed false =
          cond_e (λ (x : Server). T (is_correct x.status) → T (is_correct m.status) × (x.kept ≡ m.kept)) (is_faulty m.status) _ _
          (λ u c. absurd c) (λ u c. (c, refl))
