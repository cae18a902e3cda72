-- Stages 1 and 2 of the engine keep the relation with the step rules: what they make of a server that stands for the definitions' server
-- stands for what the definitions make of it. Every quorate pair is genuine, and so a known one. It stands on Order and register's safety.
use mathlib.Core.Path.{◌≡◌, refl, sym, ap, ◌∙◌, fun_ext}
use mathlib.Core.Bool.{Bool, true, false, not, ◌&&◌, ◌||◌, cond, and-false, or_comm, or-false, and-true, and-or_distrib_left}
use mathlib.Core.{Logic.inl, Logic.inr, List.List, List.[], List.◌++◌, List.map}
use Prim.Native.Nat.{ℕ, suc, ◌≤◌, ◌<◌}
use native.Mathlib.{Omega.arith, Decide.ℕ_discrete}
use lib.{Dec.T, Dec.ltb, Dec.eqb, Dec.eqb→eq, Dec.T_not, ListN.length, ListN.length-take, ListN.length-map}
use borrow.Author.Tests.{lt-ltb, eq-eqb, ne_eqb}
use Rattle.register.specs.Lists.{any, filter, In, same_list}
use Rattle.register.specs.{Plan.Plan, Plan.Read, Plan.echo_quorum, Plan.reply_quorum, Plan.read_end, Reading.same_read}
use Rattle.register.specs.Server.{Status, faulty, cured, correct, is_faulty, is_correct, cured_at, Claim, has, pairs_of, Server, nothing, Out, insert_all, take_in, quorum, voted_in, deliver, stage1, stage2}
use Rattle.register.proofs as register-laws
use Rattle.register.proofs.Lists.{in_append, in_left, in_right, in_filter, filter_in, any_in, in_any, any_append}
use Rattle.serving.specs.Stored.{Plain, Both}
use Rattle.serving.specs.Stages.{silent, taken, voting, with_write, replies_to, delivered, delivered_of, stage_one, stage_two}
use Rattle.tallies.specs.Tallies.{joined}
use Rattle.tables.specs.Known.{Knows}
use Rattle.refinement.specs.State.{Votes, Recently, Rep}
use Rattle.limits.proofs.Bits.{count_cut}
use Rattle.serving.proofs.StageLaws.{write_kept}
use Rattle.refinement.proofs as refinement-laws
use Rattle.plan.specs.Packed.{store_depth}

module _ (P : Plan) (G : register-laws.Good.Good P) (g : ℕ → ℕ) (m : ℕ) (K : Knows P g m) where
  -- a genuine pair has a number
  pub genuine_known : (t p : ℕ) → register-laws.Genuine.Genuine P t p → (j : ℕ) × (j < m) × (p ≡ g j)
  genuine_known t p h = elim (register-laws.Genuine.genuine_cases P t p h) [
    | inl e ↦ (0, K.first.0, e ∙ K.first.1)
    | inr w ↦ (let r = K.write w.0 w.1 in (r.0, r.1, sym w.2 ∙ r.2))
  ]

  -- ---- stage 1

  replies-rep : (r : Read) (a c : Bool) (rs hs : List Read) (asks list : ℕ → Bool) → any (same_read r) rs ≡ asks r.reader → any (same_read r) hs ≡ list r.reader
      → any (same_read r) (cond a (cond c rs hs) []) ≡ replies_to a c asks list r.reader
  unfolding any
  replies-rep r true true rs hs asks list e f = e
  replies-rep r true false rs hs asks list e f = f
  replies-rep r false c rs hs asks list e f = refl

  module _ (t : ℕ) (x : Server) (s : Plain) (ws : List ℕ) (vs : List Claim) (rs : List Read) (w : ℕ) (got : ℕ → ℕ → Bool) (asks live : ℕ → Bool)
      (R : Rep P g m t x s) (I : refinement-laws.Told.Came P g m t ws vs rs w got asks live) where
    -- the reads heard of
    list-rep : (r : Read) → In r P.reads → r.begun < t → t ≤ read_end P r
        → any (same_read r) (x.pending ++ rs) ≡ (s.pending r.reader && live r.reader) || asks r.reader
    list-rep r i l u = any_append (same_read r) x.pending rs ∙ rw (I.asking r i l u) (elim (ℕ_discrete (suc r.begun) t) [
      | yes e ↦ rw (I.began r i e, R.unheard r i (omega arith), and-false (s.pending r.reader))
      | no d ↦ rw (I.lasting r i (omega arith) u, R.heard r i (omega arith) (omega arith), and-true (s.pending r.reader))
    ])

    unlisted : (r : Read) → In r P.reads → t ≤ r.begun → any (same_read r) (x.pending ++ rs) ≡ false
    unlisted r i a = any_append (same_read r) x.pending rs ∙ rw (R.unheard r i (omega arith)) (I.later r i a)

    lost : is_faulty s.status ≡ true → refinement-laws.Told.Mid P g m t (record { server = x; sent = nothing }) (record { server = s; said = silent })
    unfolding any
    lost h =
        let z = R.empty (rw (R.status, h) tt) in
        record {
          server = record {
            status = R.status;
            kept = R.kept;
            short = R.short;
            fresh = R.fresh;
            recent = R.recent;
            heard = λ r i a b. rw (z.0, z.1);
            unheard = λ r i a. rw z.0;
            empty = R.empty;
          };
          sent = record { votes = λ j l. rw (ne_eqb j 255 (λ z. omega (arith, K.few))); readers = λ r i a b. refl; pairs = refl };
          whole = λ n. absurd (T_not (is_faulty x.status) n (rw (R.status, h) tt));
          quiet = refl;
        }

    module _ (c : ℕ) (ok : register-laws.Safety.ServerSafe P t c x) (wok : (p : ℕ) → In p ws → register-laws.Genuine.Genuine P t p)
        (vok : (v : Claim) → In v (x.fresh ++ vs) → register-laws.Safety.FreshSafe P t c v) where
      abbrev fresh : List Claim
      fresh = x.fresh ++ vs

      abbrev passes : ℕ → Bool
      passes = quorum P fresh x.old

      -- the votes with those that arrive
      fresh-rep : Votes P g m fresh (joined m s.fresh got)
      fresh-rep j i h =
          rw (lt-ltb j m h, R.fresh j i h, I.votes j i h, register-laws.Claims.has_append x.fresh vs (g j) i)
          (sym (and-or_distrib_left (ltb i P.n) (has x.fresh (g j) i) (has vs (g j) i)))

      recent-rep : Recently P g m fresh x.old (joined m s.recent got)
      recent-rep j i h =
          rw (lt-ltb j m h, R.recent j i h, I.votes j i h, register-laws.Claims.has_append x.fresh vs (g j) i)
          (turn (ltb i P.n) (has x.fresh (g j) i) (has x.old (g j) i) (has vs (g j) i))
        where
          turn : (l a o v : Bool) → (l && (a || o)) || (l && v) ≡ l && ((a || v) || o)
          turn true true o v = refl
          turn true false o v = or_comm o v
          turn false a o v = refl

      abbrev voted : ℕ → Bool
      voted = voting (echo_quorum P) (reply_quorum P) (joined m s.fresh got) (joined m s.recent got)

      -- the engine's test of a quorum is that of the step rules
      voted-is : (j : ℕ) → j < m → voted j ≡ passes (g j)
      unfolding quorum
      voted-is j h = rw (
        fun_ext (λ i. fresh-rep j i h),
        fun_ext (λ i. recent-rep j i h),
        count_cut (λ i. has fresh (g j) i) P.n 16 K.servers,
        count_cut (λ i. has fresh (g j) i || has x.old (g j) i) P.n 16 K.servers,
      )

      abbrev kept' : List ℕ
      kept' = take_in P.depth (ws ++ voted_in P fresh x.old) x.kept

      few : length s.kept ≤ store_depth
      few = omega (arith, R.short, ap length R.kept, length-map s.kept g)

      -- what the step rules take in has numbers
      to : (q : ℕ) → In q (ws ++ filter passes (pairs_of (fresh ++ x.old))) → (j : ℕ) × (j < m) × T (eqb j w || voted j) × (q ≡ g j)
      to q i = elim (in_append q ws _ i) [
        | inl a ↦ (let (j, h, e) = genuine_known t q (wok q a) in
            (j, h, register-laws.Logic.or_l (eqb j w) _ (rw (I.wrote j h) at (in_any (λ p. eqb p (g j)) q ws a (rw (eq-eqb q (g j) e) tt))), e))
        | inr a ↦ (let f = in_filter passes q (pairs_of (fresh ++ x.old)) a in
            let (j, h, e) = genuine_known t q (register-laws.Safety.voted_genuine P G t c fresh x.old vok ok.old q f.1) in
            (j, h, register-laws.Logic.or_r (eqb j w) _ (rw (voted-is j h) (rw e at f.1)), e))
      ]

      from : (j : ℕ) → j < m → T (eqb j w || voted j) → In (g j) (ws ++ filter passes (pairs_of (fresh ++ x.old)))
      from j h y = elim (register-laws.Logic.or_e (eqb j w) _ y) [
        | inl a ↦ (let r = any_in (λ p. eqb p (g j)) ws (rw (I.wrote j h) a) in in_left (g j) ws _ (rw (eqb→eq r.0 (g j) r.2) at r.1))
        | inr a ↦ (let b = rw (voted-is j h) at a in
            in_right (g j) ws _ (filter_in passes (g j) (pairs_of (fresh ++ x.old)) (register-laws.Claims.quorum_named P fresh x.old (g j) b) b))
      ]

      -- what is taken in, by numbers
      kept-now : kept' ≡ map g (taken voted m (with_write m w s).kept)
      unfolding voted_in
      kept-now =
          ap (λ (d : ℕ). take_in d (ws ++ voted_in P fresh x.old) x.kept) K.depth
          ∙ rw (R.kept, write_kept m w s)
          (refinement-laws.Order.by_number g K.rising voted m w (ws ++ voted_in P fresh x.old) s.kept (rw R.kept at ok.falling) few to from)

      taken_in : is_faulty s.status ≡ false → refinement-laws.Told.Mid P g m t (deliver P x ws vs rs) (delivered m (echo_quorum P) (reply_quorum P) w got asks live s)
      unfolding deliver delivered delivered_of any take_in
      taken_in free = record {
        server = record {
          status = R.status;
          kept = kept-now;
          short = rw (← K.depth) (omega (arith, length-take P.depth (insert_all (ws ++ voted_in P fresh x.old) x.kept)));
          fresh = fresh-rep;
          recent = recent-rep;
          heard = λ r i a b. list-rep r i (omega arith) (omega arith);
          unheard = λ r i a. unlisted r i (omega arith);
          empty = λ y. absurd (T_not (is_faulty x.status) (rw (R.status, free) tt) y);
        };
        sent = record {
          votes = λ j l. I.wrote j l ∙ sym (or-false (eqb j w));
          readers = λ r i a b. rw (R.status, kept-now, R.kept, register-laws.Rising.same_map g K.rising s.kept (taken voted m (with_write m w s).kept))
              (replies-rep r (is_correct s.status) (same_list s.kept _) rs (x.pending ++ rs) asks (λ y. (s.pending y && live y) || asks y) (I.asking r i a b) (list-rep r i a b));
          pairs = kept-now;
        };
        whole = λ n. refl;
        quiet = refl;
      }

      pub one_rep : refinement-laws.Told.Mid P g m t (stage1 P x ws vs rs) (stage_one m (echo_quorum P) (reply_quorum P) w got asks live s)
      unfolding stage1 stage_one
      one_rep = rw (ap is_faulty R.status) (refinement-laws.Told.both_cond (refinement-laws.Told.Mid P g m t) (is_faulty s.status) _ _ _ _ lost taken_in)

  -- ---- stage 2

  pub two_rep : (t : ℕ) (o : Out) (q : Both) → refinement-laws.Told.Mid P g m t o q → refinement-laws.Told.Mid P g m t (stage2 P t o) (stage_two P.delta t q)
  unfolding stage2 stage_two
  two_rep t o q M = rw (ap (cured_at P.delta t) M.server.status) (refinement-laws.Told.both_cond (refinement-laws.Told.Mid P g m t) (cured_at P.delta t q.server.status) _ o _ q (λ h.
      let f : T (not (is_faulty o.server.status)) = rw M.server.status (free q.server.status (rw h tt)) in
      let e : map g q.said.pairs ≡ map g q.server.kept = sym M.sent.pairs ∙ M.whole f ∙ M.server.kept in
      record {
        server = record {
          status = refl;
          kept = M.server.kept;
          short = M.server.short;
          fresh = M.server.fresh;
          recent = M.server.recent;
          heard = M.server.heard;
          unheard = M.server.unheard;
          empty = λ y. absurd y;
        };
        sent = record {
          votes = λ j l. M.sent.votes j l ∙ rw (← register-laws.Rising.member_map g K.rising j q.said.pairs, e, register-laws.Rising.member_map g K.rising j q.server.kept);
          readers = λ r i a b. M.server.heard r i (omega arith) (omega arith);
          pairs = M.server.kept;
        };
        whole = λ n. refl;
        quiet = M.quiet;
      }) (λ h. M))
    where
      free : (s : Status) → T (cured_at P.delta t s) → T (not (is_faulty s))
      free faulty y = absurd y
      free (cured c) y = tt
      free correct y = absurd y
