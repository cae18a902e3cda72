-- Stages 1 to 4 of the engine are those of the step rules: each server stands for its server afterwards, what it sent stands for what was sent,
-- and with the forged votes of the tick the calendar has the votes under way. It stands on RepLaws, MoveLaws, WayLaws, ReplyLaws and register's safety; the
-- bound on n is not used.
use mathlib.Core.Path.{◌≡◌, refl, sym, ap, ◌∙◌}
use mathlib.Core.Bool.{Bool, true, false, not, ◌&&◌, ◌||◌, cond, and-false, or-false, and-or_distrib_left}
use mathlib.Core.{Logic.inl, Logic.inr, List.List, List.◌++◌}
use Prim.Native.Nat.{ℕ, suc, ◌+◌, ◌-◌, ◌/◌, ◌%◌, ◌≤◌, ◌<◌}
use native.Mathlib.{Omega.arith, Decide.ℕ_discrete}
use lib.{Dec.eqb, Dec.leb, Dec.ltb}
use borrow.Author.Tests.{lt-ltb, lt-leb, eq-eqb, ne_eqb}
use Rattle.register.specs.{Lists.any, Lists.In, Lists.member, Server.Claim, Server.Server}
use Rattle.register.specs.Plan.{Plan, Forgery, echo_quorum, reply_quorum, is_move}
use Rattle.register.specs.Cluster.{writes_in, reads_in, votes_in, server_of, cluster}
use Rattle.register.proofs as register-laws
use Rattle.register.proofs.Trace.{before, delivered, mid, end, before_suc}
use Rattle.calendar.specs.Layout.{receivers, row_of, sender}
use Rattle.limits.specs.Bits.{bit}
use Rattle.calendar.proofs.Spans.{row_receiver, row_slot}
use Rattle.serving.specs as serving-specs
use Rattle.sending.specs as sending-specs
use Rattle.tables.specs as tables-specs
use Rattle.serving.specs.{Stored.Plain, Stored.Both, Stages.stage_one, Stages.stage_two, Stages.stage_four, Stages.stages_of}
use Rattle.sending.specs.Sends.{Said}
use Rattle.cluster.specs as cluster-specs
use Rattle.std.specs.Option.{is_some}
use Rattle.cluster.specs.Inputs.{is_seized}
use Rattle.cluster.specs.Tick.{server_at, got, all_of, sent_by}
use Rattle.refinement.specs.{Way.forged_as, Way.vote_way, State.Rep, State.State}
use Rattle.refinement.proofs as refinement-laws

-- the stages, with the plan's numbers for those that are fed
stages_law : (m : ℕ) (rules : tables-specs.declared.Rules.Rules) (w : ℕ) (got : ℕ → ℕ → Bool) (asks live : ℕ → Bool) (mv mv' h h' : Bool) (t : ℕ) (s : Plain) (k2 : Bool) (delta e r : ℕ)
    → rules.two ≡ k2 → rules.delta ≡ delta → rules.echo ≡ e → rules.reply ≡ r → mv ≡ mv' → (mv' ≡ true → h ≡ h') → stages_of m rules w got asks live mv h t s
    ≡ cond mv' (stage_four k2 h' t (stage_two delta t (stage_one m e r w got asks live s))) (stage_two delta t (stage_one m e r w got asks live s))
unfolding stages_of
stages_law m rules w got asks live mv true h h' t s k2 delta e r a b c d f i = rw (f, a, b, c, d, i refl)
stages_law m rules w got asks live mv false h h' t s k2 delta e r a b c d f i = rw (f, b, c, d)

-- ---- one tick

module _ (P : Plan) (G : register-laws.Good.Good P) (F : cluster-specs.Tick.Fed) {g : ℕ → ℕ} (fit : cluster-specs.Inputs.Fits P g F.t F.plan F.rules F.m F.links F.arrivals F.movement)
    (K : tables-specs.Known.Knows P g F.m) (c : cluster-specs.declared.Cluster.Cluster) (r : List serving-specs.declared.Server.Server) (sets then work : List ℕ)
    (D : cluster-specs.Tick.Ticked F c.ends c.servers r sets then work P.n) (S : State P g F.m F.t c sets F.work) where
  abbrev t : ℕ
  t = F.t

  abbrev m : ℕ
  m = F.m

  -- what server b comes to and says
  abbrev out : ℕ → Both
  out b = all_of F b (server_at m sets c.servers b)

  module _ (b : ℕ) (lb : b < P.n) where
    abbrev x : Server
    x = before P t b

    abbrev s : Plain
    s = server_at m sets c.servers b

    R : Rep P g m t x s
    unfolding before
    R = S.servers b lb

    ok : register-laws.Safety.ServerSafe P t ((t - 1) / P.period) x
    unfolding before
    ok = (register-laws.SafetyTick.cluster_safe P G t).0 b

    abbrev vs : List Claim
    vs = votes_in P t (cluster P t).log b

    abbrev wrote : ℕ
    wrote = cluster-specs.Inputs.wrote_at F.arrivals.requests F.arrivals.number b

    abbrev asks : ℕ → Bool
    asks = cluster-specs.Inputs.asks_at F.arrivals.requests b

    abbrev live : ℕ → Bool
    live y = bit y F.arrivals.live

    came : refinement-laws.Told.Came P g m t (writes_in P t b) vs (reads_in P t b) wrote (got F b) asks live
    came = record {
      wrote = λ j h. fit.wrote b j lb h;
      votes = λ j i h. S.calendar.votes t b j i (omega arith) (omega arith) lb h ∙ refinement-laws.WayLaws.below i P.n _ _ (λ l. refinement-laws.WayLaws.votes_arrive P G t b (g j) i l);
      asking = λ r i a q. fit.asks b r lb i a q;
      later = λ r i a. refinement-laws.ReplyLaws.reads_later P G t b r a;
      lasting = fit.lasting;
      began = fit.began;
    }

    fresh-safe : (v : Claim) → In v (x.fresh ++ vs) → register-laws.Safety.FreshSafe P t ((t - 1) / P.period) v
    fresh-safe v i = elim (register-laws.Lists.in_append v x.fresh vs i) [ inl a ↦ ok.fresh v a | inr q ↦ register-laws.SafetyTick.votes_in_safe P G t (cluster P t).log b (register-laws.SafetyTick.cluster_safe P G t).1 v q ]

    abbrev second : Both
    second = stage_two P.delta t (stage_one m (echo_quorum P) (reply_quorum P) wrote (got F b) asks live s)

    middle : refinement-laws.Told.Mid P g m t (mid P t b) second
    unfolding mid delivered
    middle = refinement-laws.RepLaws.two_rep P G g m K t _ _ (refinement-laws.RepLaws.one_rep P G g m K t x s (writes_in P t b) vs (reads_in P t b) wrote (got F b) asks live R came ((t - 1) / P.period) ok (λ p i. register-laws.SafetyTick.writes_in_genuine P G t b p i) fresh-safe)

    -- what the server came to and sent
    pub ended : refinement-laws.Told.End P g m t (end P t b) (out b)
    unfolding end
    ended =
        rw (stages_law m F.rules wrote (got F b) asks live (is_some F.movement) (is_move P t) (is_seized F.movement b) (P.placed (t / P.period) b) t s _ _ _ _
        fit.two fit.delta fit.echo fit.reply fit.moving (λ y. fit.faulty y b lb))
        (register-laws.Logic.cond_e (refinement-laws.Told.End P g m t (end P t b)) (is_move P t) _ second
        (λ y. refinement-laws.MoveLaws.four_rep P g K.rising m t b (mid P t b) second y middle) (λ y. refinement-laws.MoveLaws.still_rep P g K.rising m t b (mid P t b) second y middle))

    pub new_server : Rep P g m (suc t) (server_of (cluster P (suc t)) b) (server_at m then r b)
    unfolding before
    new_server = rw (before_suc P t b lb, D.each b lb) ended.server

  -- ---- what is under way

  -- a row after stages 1 to 4: what was under way and is not taken, and what is sent now
  pub row_now : (s y j i : ℕ) → t < s → s ≤ t + 16 → y < receivers → (ltb y P.n || leb 16 y) ≡ true → j < m → (v w : Bool)
      → (s < t + 16 → sender F.work (row_of s y) j i ≡ ltb i P.n && v) → (s ≡ t + 16 → v ≡ false)
      → (i < P.n → sent_by F c.ends i (out i).said (row_of s y) j ≡ w)
      → sender work (row_of s y) j i ≡ ltb i P.n && (v || w)
  unfolding cluster-specs.Tick.present
  row_now s y j i after within few own h v w old far now =
      D.cells (row_of s y) j i (omega arith) (omega (arith, K.few))
      ∙ rw (row_receiver s y few, row_slot s y few, own, kept (ℕ_discrete s (t + 16)))
      (ap (λ (u : Bool). (ltb i P.n && v) || u) (refinement-laws.WayLaws.below i P.n _ w now) ∙ sym (and-or_distrib_left (ltb i P.n) v w))
    where
      kept : Dec (s ≡ t + 16) → not (eqb (s % 16) (t % 16) && true) && sender F.work (row_of s y) j i ≡ ltb i P.n && v
      kept (yes e) = rw (eq-eqb (s % 16) (t % 16) (omega arith), far e) (sym (and-false (ltb i P.n)))
      kept (no d) = rw (refinement-laws.WayLaws.slot_past t s after (omega arith)) (old (omega arith))

  -- ---- the votes under way

  module _ (s b : ℕ) (after : t < s) (within : s ≤ t + 16) (lb : b < P.n) (j : ℕ) (h : j < m) where
    few : b < receivers
    few = omega (arith, K.servers)

    -- what server i sends in this tick that said this
    sent-as : (i : ℕ) (said : Said) → i < P.n
        → sent_by F c.ends i said (row_of s b) j ≡ (not (eqb i b) && eqb (t + P.delay t i b) s) && sending-specs.Sends.votes_for said j
    unfolding sending-specs.Sends.sends_vote sending-specs.Sends.sends_reply
    sent-as i said li =
        rw (row_receiver s b few, row_slot s b few, lt-ltb b F.links.n (omega (arith, fit.servers)), lt-leb 16 b (omega (arith, K.servers)), or-false) (elim (ℕ_discrete i b) [
          | yes e ↦ rw (eq-eqb i b e, eq-eqb b i (sym e))
          | no d ↦ rw (
            ne_eqb i b d,
            ne_eqb b i (λ e. d (sym e)),
            fit.delays i b li lb d,
            refinement-laws.WayLaws.slot_is t (P.delay t i b) s (G.delay_lo t i b) (omega (arith, G.delay_hi t i b, K.slow)) after within,
          )
        ])

    -- after stages 1 to 4
    votes-after : (i : ℕ) → sender work (row_of s b) j i
        ≡ ltb i P.n && (vote_way P (cluster P t).log t s b (g j) i || ((not (eqb i b) && eqb (t + P.delay t i b) s) && member (g j) (end P t i).sent.votes))
    votes-after i =
        row_now s b j i after within few (rw (lt-ltb b P.n lb)) h (vote_way P (cluster P t).log t s b (g j) i) _ (λ q. S.calendar.votes s b j i (omega arith) q lb h)
        (λ e. refinement-laws.WayLaws.votes_far P G t s b (g j) i (cluster P t).log (omega (arith, K.slow))) (λ l. sent-as i (out i).said l ∙ rw ((ended i l).sent.votes j h))

    -- and after the forged votes of the tick
    pub new_votes : (i : ℕ) (v : Bool) → v ≡ sender work (row_of s b) j i || (ltb i P.n && any (λ (x : Forgery). eqb x.at t && forged_as P s b (g j) i x) P.forged)
        → v ≡ ltb i P.n && vote_way P (cluster P (suc t)).log (suc t) s b (g j) i
    new_votes i v e =
        e ∙ rw (votes-after i, ← and-or_distrib_left) (refinement-laws.WayLaws.below i P.n _ _ (λ l. sym (refinement-laws.WayLaws.votes_next P G t s b (g j) i l)))
