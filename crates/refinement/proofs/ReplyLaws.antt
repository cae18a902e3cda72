-- Replies under way by the step rules: none before the read's begin, and a tick adds what is sent in it. It stands on WayLaws' general laws and on
-- register's laws of the log.
use mathlib.Core.Path.{◌≡◌}
use mathlib.Core.Bool.{Bool, true, false, ◌&&◌, ◌||◌, and-false, or_comm, or-false, and-or_distrib_left}
use mathlib.Core.Logic.{inl, inr}
use mathlib.Core.List.{List, [], ◌++◌}
use Prim.Native.Nat.{ℕ, zero, suc, ◌+◌, ◌/◌, ◌≤◌, ◌<◌}
use native.Mathlib.Omega.{arith}
use native.Mathlib.Decide.{dec_le, ℕ_discrete}
use lib.Dec.{T, eqb, leb, ltb, eqb→eq, ltb→lt}
use borrow.Author.Tests.{le-leb, le-ltb, lt-leb, ne_eqb}
use Rattle.register.specs.Lists.{any, any_up_to, In, member, same_list}
use Rattle.register.specs.Plan.{Plan, Read, Forgery, is_move, read_end}
use Rattle.register.specs.Server.{is_faulty, is_correct, cured_at, Server, Out, deliver, stage1, stage2, moved}
use Rattle.register.specs.Cluster.{Log, sent_in, reads_in, cluster}
use Rattle.register.specs.Reading.{same_read}
use Rattle.register.proofs.Logic.{and_l, and_r, cond_e}
use Rattle.register.proofs as register-laws
use Rattle.register.proofs.Trace.{before, delivered, mid, end, before_zero, before_suc, sent_row, row_kept}
use Rattle.register.proofs.Counting.{any_cong, none_up}
use Rattle.refinement.specs.Way.{forged_as, reply_from, reply_way, heard_way}
use Rattle.refinement.proofs.WayLaws.{refuted, none_any, any_or, or_turn, before_next}

-- ---- what is sent in a tick

module _ (P : Plan) where
  -- server i's reply of tick t to read r, if it arrives in tick s and names p
  unfoldable pub replies_in : ℕ → Read → ℕ → ℕ → ℕ → Bool
  replies_in t r s p i =
      (any (same_read r) (end P t i).sent.reply_to && eqb (t + P.delay t i (P.n + r.reader)) s) && member p (end P t i).sent.reply_with

  -- the forged replies of tick t
  abbrev pub forged_now : ℕ → Read → ℕ → ℕ → ℕ → Bool
  forged_now t r s p i = any (λ (x : Forgery). eqb x.at t && forged_as P s (P.n + r.reader) p i x) P.forged

  -- none arrives after the read's end
  pub replies_over : (t : ℕ) (r : Read) (s p i : ℕ) (log : Log) → read_end P r < s → reply_way P log t r s p i ≡ false
  unfolding reply_way
  replies_over t r s p i log h = rw (lt-leb s (read_end P r) h)

-- ---- no reply by the read's begin

module _ (P : Plan) (G : register-laws.Good.Good P) where
  -- reads begun before tick t
  abbrev Past : ℕ → List Read → Type 0
  Past t l = (q : Read) → In q l → q.begun < t

  past-none : (t : ℕ) (r : Read) (l : List Read) → Past t l → t ≤ r.begun → any (same_read r) l ≡ false
  unfolding same_read
  past-none t r l p h = refuted (any (same_read r) l) (λ y.
      let (q, i, e) = register-laws.Lists.any_in (same_read r) l y in
      omega (arith, p q i, eqb→eq r.begun q.begun (and_l (eqb r.begun q.begun) _ e)))

  -- a READ arrives after its begin
  asked-later : (t b : ℕ) → Past t (reads_in P t b)
  unfolding reads_in
  asked-later t b q i =
      let f = register-laws.Lists.in_filter (λ (q : Read). eqb (q.begun + P.delay q.begun (P.n + q.reader) b) t) q P.reads i in
      omega (arith, eqb→eq (q.begun + P.delay q.begun (P.n + q.reader) b) t f.1, G.delay_lo q.begun (P.n + q.reader) b)

  pub reads_later : (t b : ℕ) (r : Read) → t ≤ r.begun → any (same_read r) (reads_in P t b) ≡ false
  reads_later t b r h = past-none t r (reads_in P t b) (asked-later t b) h

  module _ (t b : ℕ) (h : Past t (before P t b).pending) where
    both-past : Past t ((before P t b).pending ++ reads_in P t b)
    both-past q i = elim (register-laws.Lists.in_append q (before P t b).pending (reads_in P t b) i) [ inl a ↦ h q a | inr a ↦ asked-later t b q a ]

    delivered-past : Past t (delivered P t b).server.pending × Past t (delivered P t b).sent.reply_to
    unfolding delivered stage1 deliver
    delivered-past =
        cond_e (λ (o : Out). Past t o.server.pending × Past t o.sent.reply_to) (is_faulty (before P t b).status) _ _
        (λ f. (h, λ q i. absurd i))
        (λ f. (
          both-past,
          cond_e (Past t) (is_correct (before P t b).status) _ []
              (λ g. cond_e (Past t) (same_list (before P t b).kept _) (reads_in P t b) _ (λ y. asked-later t b) (λ y. both-past)) (λ g q i. absurd i),
        ))

    mid-past : Past t (mid P t b).server.pending × Past t (mid P t b).sent.reply_to
    unfolding mid stage2
    mid-past =
        cond_e (λ (o : Out). Past t o.server.pending × Past t o.sent.reply_to) (cured_at P.delta t (delivered P t b).server.status) _ (delivered P t b)
        (λ f. (delivered-past.0, delivered-past.0))
        (λ f. delivered-past)

  moved-past : (t : ℕ) (f : Bool) (x : Server) → Past t x.pending → Past t (moved P t f x).pending
  unfolding moved
  moved-past t true x h = λ q i. absurd i
  moved-past t false x h = cond_e (λ (y : Server). Past t y.pending) (is_faulty x.status) _ _ (λ f q i. absurd i) (λ f. h)

  pending-past : (t b : ℕ) → b < P.n → Past t (before P t b).pending
  pending-past zero b l = rw (before_zero P b l) (λ q i. absurd i)
  pending-past (suc t) b l =
      let h = (mid-past t b (pending-past t b l)).0 in
      rw (before_suc P t b l, register-laws.Stages.end_server P t b) (λ q i. omega (
        arith,
        cond_e (λ (y : Server). Past t y.pending) (is_move P t) _ _
            (λ f. moved-past t (P.placed (t / P.period) b) (mid P t b).server h) (λ f. h) q i,
      ))

  -- no reply to a read that begins now or later
  pub not_replied : (t b : ℕ) (r : Read) → b < P.n → t ≤ r.begun → any (same_read r) (end P t b).sent.reply_to ≡ false
  not_replied t b r l h = rw (register-laws.Stages.end_replies P t b).0 (past-none t r (mid P t b).sent.reply_to (mid-past t b (pending-past t b l)).1 h)

  -- ---- one tick

  -- a tick adds what is sent in it, if it arrives by the read's end
  pub replies_next : (t : ℕ) (r : Read) (s p i : ℕ) → i < P.n → r.begun ≤ t → reply_way P (cluster P (suc t)).log (suc t) r s p i
      ≡ (reply_way P (cluster P t).log t r s p i || (leb s (read_end P r) && replies_in P t r s p i)) || (leb s (read_end P r) && forged_now P t r s p i)
  unfolding reply_way any_up_to replies_in
  replies_next t r s p i l h =
      rw (
        any_or (λ x. leb r.begun x.at && (ltb x.at (suc t) && forged_as P s (P.n + r.reader) p i x))
            (λ x. leb r.begun x.at && (ltb x.at t && forged_as P s (P.n + r.reader) p i x))
            (λ x. eqb x.at t && forged_as P s (P.n + r.reader) p i x) P.forged forged,
        any_cong t (λ u. reply_from P (cluster P (suc t)).log (suc t) r u s p i) (λ u. reply_from P (cluster P t).log t r u s p i) (λ u a. rw (row_kept P t u i a)),
        sent_row P (suc t) t i l (omega arith),
      )
      (rw or_turn (simp and-or_distrib_left))
    where
      forged : (x : Forgery) → leb r.begun x.at && (ltb x.at (suc t) && forged_as P s (P.n + r.reader) p i x)
          ≡ (leb r.begun x.at && (ltb x.at t && forged_as P s (P.n + r.reader) p i x)) || (eqb x.at t && forged_as P s (P.n + r.reader) p i x)
      forged x = rw (before_next x.at t (forged_as P s (P.n + r.reader) p i x)) (elim (ℕ_discrete x.at t) [
        | yes e ↦ rw (le-leb r.begun x.at (omega arith))
        | no d ↦ rw (ne_eqb x.at t d) (simp or-false)
      ])

  pub arrives : (s q p i : ℕ) (x : Forgery) → T (forged_as P s q p i x) → x.at + P.delay x.at x.from x.to ≡ s
  arrives s q p i x h =
      let a : T (eqb (x.at + P.delay x.at x.from x.to) s) = search (and_l, and_r) in
      eqb→eq (x.at + P.delay x.at x.from x.to) s a

  -- what is sent now arrives later
  replies-later : (t : ℕ) (r : Read) (s p i : ℕ) → s ≤ t → replies_in P t r s p i ≡ false
  unfolding replies_in
  replies-later t r s p i h =
      rw (ne_eqb (t + P.delay t i (P.n + r.reader)) s (λ e. omega (arith, G.delay_lo t i (P.n + r.reader))), and-false (any (same_read r) (end P t i).sent.reply_to))

  forged-later : (t : ℕ) (r : Read) (s p i : ℕ) → s ≤ t → forged_now P t r s p i ≡ false
  forged-later t r s p i h = none_any (λ x. eqb x.at t && forged_as P s (P.n + r.reader) p i x) P.forged (λ x.
      refuted (eqb x.at t && forged_as P s (P.n + r.reader) p i x) (λ y.
      let a = and_l (eqb x.at t) (forged_as P s (P.n + r.reader) p i x) y in
      let f = and_r (eqb x.at t) (forged_as P s (P.n + r.reader) p i x) y in
      omega (arith, eqb→eq x.at t a, arrives s (P.n + r.reader) p i x f, G.delay_lo x.at x.from x.to)))

  past_same : (t : ℕ) (r : Read) (s p i : ℕ) → i < P.n → r.begun ≤ t → s ≤ t
      → reply_way P (cluster P (suc t)).log (suc t) r s p i ≡ reply_way P (cluster P t).log t r s p i
  past_same t r s p i l h a =
      rw (replies_next t r s p i l h, replies-later t r s p i a, forged-later t r s p i a) (simp (and-false, or-false))

  -- what arrives is noted
  pub heard_next : (t : ℕ) (r : Read) (p i : ℕ) → i < P.n → r.begun ≤ t
      → heard_way P (cluster P (suc t)).log (suc t) r p i ≡ heard_way P (cluster P t).log t r p i || reply_way P (cluster P t).log t r t p i
  unfolding heard_way any_up_to
  heard_next t r p i l h =
      rw (
        past_same t r t p i l h (omega arith),
        any_cong t (λ s. reply_way P (cluster P (suc t)).log (suc t) r s p i) (λ s. reply_way P (cluster P t).log t r s p i) (λ s a. past_same t r s p i l h (omega arith)),
      )
      (or_comm (reply_way P (cluster P t).log t r t p i) (any_up_to t (λ s. reply_way P (cluster P t).log t r s p i)))

  -- ---- the begin

  -- nothing is under way to a read that has not begun
  pub replies_none : (t : ℕ) (r : Read) (s p i : ℕ) → i < P.n → t ≤ r.begun → reply_way P (cluster P t).log t r s p i ≡ false
  unfolding reply_way
  replies_none t r s p i l h =
      rw (
        none_up t (λ u. reply_from P (cluster P t).log t r u s p i) (λ u a. rw (sent_row P t u i l a, not_replied u i r l (omega arith))),
        none_any (λ x. leb r.begun x.at && (ltb x.at t && forged_as P s (P.n + r.reader) p i x)) P.forged forged,
      )
      (and-false (leb s (read_end P r)))
    where
      forged : (x : Forgery) → leb r.begun x.at && (ltb x.at t && forged_as P s (P.n + r.reader) p i x) ≡ false
      forged x = elim (dec_le t x.at) [
        | yes a ↦ rw (le-ltb x.at t a) (and-false (leb r.begun x.at))
        | no a ↦ rw (lt-leb r.begun x.at (omega arith))
      ]

  -- in the tick of its begin, only forged replies are sent to it
  pub replies_first : (t : ℕ) (r : Read) (s p i : ℕ) → i < P.n → r.begun ≡ t
      → reply_way P (cluster P (suc t)).log (suc t) r s p i ≡ leb s (read_end P r) && forged_now P t r s p i
  unfolding replies_in
  replies_first t r s p i l h =
      rw (replies_next t r s p i l (omega arith), replies_none t r s p i l (omega arith), not_replied t i r l (omega arith), and-false (leb s (read_end P r)))

  pub heard_first : (t : ℕ) (r : Read) (p i : ℕ) → i < P.n → r.begun ≡ t → heard_way P (cluster P (suc t)).log (suc t) r p i ≡ false
  unfolding heard_way
  heard_first t r p i l h =
      rw (
        heard_next t r p i l (omega arith),
        none_up t (λ s. reply_way P (cluster P t).log t r s p i) (λ s a. replies_none t r s p i l (omega arith)),
        replies_none t r t p i l (omega arith),
      )

  -- ---- the end

  -- none is under way for longer than the slowest delay
  pub replies_far : (t : ℕ) (r : Read) (s p i : ℕ) (log : Log) → t + P.delta ≤ s → reply_way P log t r s p i ≡ false
  unfolding reply_way
  replies_far t r s p i log h =
      rw (
        none_up t (λ u. reply_from P log t r u s p i) (λ u l.
            rw (ne_eqb (u + P.delay u i (P.n + r.reader)) s (λ e. omega (arith, G.delay_hi u i (P.n + r.reader))), and-false (any (same_read r) (sent_in log u i).reply_to))),
        none_any (λ x. leb r.begun x.at && (ltb x.at t && forged_as P s (P.n + r.reader) p i x)) P.forged late,
      )
      (and-false (leb s (read_end P r)))
    where
      late : (x : Forgery) → leb r.begun x.at && (ltb x.at t && forged_as P s (P.n + r.reader) p i x) ≡ false
      late x = rw (refuted (ltb x.at t && forged_as P s (P.n + r.reader) p i x) (λ y.
          let a = and_l (ltb x.at t) (forged_as P s (P.n + r.reader) p i x) y in
          let f = and_r (ltb x.at t) (forged_as P s (P.n + r.reader) p i x) y in
          omega (arith, ltb→lt x.at t a, arrives s (P.n + r.reader) p i x f, G.delay_hi x.at x.from x.to)))
          (and-false (leb r.begun x.at))
