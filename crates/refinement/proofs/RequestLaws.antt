-- The requests under way from tick to tick: at the start there are none, and in a tick those that arrive are taken and those that begin are posted.
-- An open read's READ is told from all others of its reader. It stands on WayLaws and on what a good plan has.
use mathlib.Core.Path.{◌≡◌, refl, sym, ◌∙◌}
use mathlib.Core.Bool.{Bool, false, not, ◌&&◌, ◌||◌}
use mathlib.Core.List.{List}
use Prim.Native.Nat.{ℕ, suc, ◌+◌, ◌%◌, ◌≤◌, ◌<◌}
use native.Mathlib.Omega.{arith}
use native.Mathlib.Decide.{dec_le, ℕ_discrete}
use lib.Dec.{T, eqb, ltb, ltb→lt, lt→ltb, eqb→eq, eqb_refl}
use borrow.Author.Tests.{le-ltb, eq-eqb}
use Rattle.register.specs.Lists.{any, In}
use Rattle.register.specs.Plan.{Plan, Write, Read, read_end}
use Rattle.register.specs.Cluster.{reads_in}
use Rattle.register.specs.Reading.{same_read}
use Rattle.register.proofs.Good.{Good}
use Rattle.register.proofs.Logic.{T_iff, and_l, and_r, and_i}
use Rattle.register.proofs.Lists.{any_in, in_any, in_filter, filter_in}
use Rattle.calendar.specs.View.{SamePast}
use Rattle.requests.specs.Requests.{reached_by, Unasked}
use Rattle.requests.proofs.Requesting.{past_requests}
use Rattle.refinement.specs.Requests.{write_reaches, read_reaches, write_way, read_way, Requested, write_begins, read_begins}
use Rattle.refinement.proofs.WayLaws.{refuted, none_any, any_or, before_next, slot_past}

-- ---- operations of any kind, in one tick

module _ {A : Type 0} (l : List A) (begun : A → ℕ) (hit : A → Bool) where
  way-none : any (λ x. ltb (begun x) 0 && hit x) l ≡ false
  way-none = none_any (λ x. ltb (begun x) 0 && hit x) l (λ x. rw (le-ltb (begun x) 0 (omega arith)))

  -- what was under way and is not taken, and what begins
  way_next : (t s : ℕ) (old : Bool) → t < s → s ≤ t + 16 → ((x : A) → begun x < t → T (hit x) → s < t + 16)
      → (s < t + 16 → old ≡ any (λ x. ltb (begun x) t && hit x) l)
      → (not (eqb (s % 16) (t % 16)) && old) || any (λ x. eqb (begun x) t && hit x) l ≡ any (λ x. ltb (begun x) (suc t) && hit x) l
  way_next t s old lo hi slow same =
      rw (any_or (λ x. ltb (begun x) (suc t) && hit x) (λ x. ltb (begun x) t && hit x) (λ x. eqb (begun x) t && hit x) l (λ x. before_next (begun x) t (hit x)))
      (elim (ℕ_discrete s (t + 16)) [
        | yes e ↦ rw (
          eq-eqb (s % 16) (t % 16) (omega arith),
          none_any (λ x. ltb (begun x) t && hit x) l (λ x. refuted (ltb (begun x) t && hit x)
              (λ y. omega (arith, slow x (ltb→lt (begun x) t (and_l (ltb (begun x) t) (hit x) y)) (and_r (ltb (begun x) t) (hit x) y)))),
        )
        | no d ↦ rw (slot_past t s lo (omega arith), same (omega arith))
      ])

-- ---- from tick to tick

module _ (P : Plan) where
  pub requested_none : (work : List ℕ) → Unasked work → Requested P 0 work
  unfolding write_way read_way
  requested_none work U = record {
    writes = λ s b a h l. U.requests s 0 b (omega arith) ∙ sym (way-none P.writes (λ (w : Write). w.begun) (write_reaches P s b));
    reads = λ s x b a h lo hi l. U.requests s x b (omega arith) ∙ sym (way-none P.reads (λ (r : Read). r.begun) (read_reaches P x s b));
  }

  -- what changes the calendar alone leaves them
  pub requested_past : (t : ℕ) (a r : List ℕ) → SamePast a r → Requested P t a → Requested P t r
  requested_past t a r S R = record {
    writes = λ s b u h l. past_requests a r S s 0 b ∙ R.writes s b u h l;
    reads = λ s x b u h lo hi l. past_requests a r S s x b ∙ R.reads s x b u h lo hi l;
  }

  module _ (G : Good P) (slow : P.delta ≤ 15) (t : ℕ) (work after : List ℕ) (R : Requested P t work) where
    pub requested_next : ((s b : ℕ) → t < s → s ≤ t + 16 → b < P.n → reached_by after s 0 b ≡ (not (eqb (s % 16) (t % 16)) && reached_by work s 0 b) || write_begins P t s b)
        → ((s x b : ℕ) → t < s → s ≤ t + 16 → 1 ≤ x → x ≤ 4 → b < P.n → reached_by after s x b ≡ (not (eqb (s % 16) (t % 16)) && reached_by work s x b) || read_begins P t x s b)
        → Requested P (suc t) after
    unfolding write_way read_way write_begins read_begins
    requested_next W Q = record {
      writes = λ s b a h l. W s b a (omega arith) l
          ∙ way_next P.writes (λ (w : Write). w.begun) (write_reaches P s b) t s (reached_by work s 0 b) a (omega arith)
          (λ w u y. let e = eqb→eq _ s y in omega (arith, G.delay_hi w.begun P.n b)) (λ g. R.writes s b (omega arith) g l);
      reads = λ s x b a h lo hi l. Q s x b a (omega arith) lo hi l
          ∙ way_next P.reads (λ (r : Read). r.begun) (read_reaches P x s b) t s (reached_by work s x b) a (omega arith)
          (λ r u y. let e = eqb→eq _ s (and_r (eqb r.reader x) _ y) in omega (arith, G.delay_hi r.begun (P.n + x) b)) (λ g. R.reads s x b (omega arith) g lo hi l);
    }

-- ---- the READ of an open read

-- arrivals of the same message
pub same_arrival : (P : Plan) (b t u v x y : ℕ) → u ≡ v → x ≡ y → T (eqb (v + P.delay v (P.n + y) b) t) → T (eqb (u + P.delay u (P.n + x) b) t)
same_arrival P b t u v x y e f h = rw (e, f) h

module _ (P : Plan) (G : Good P) (t b : ℕ) (r : Read) (listed : In r P.reads) (began : r.begun < t) (lasts : t ≤ read_end P r) where
  -- another request of its reader that arrives now is the same
  only_one : (q : Read) → In q P.reads → q.begun < t → q.reader ≡ r.reader → q.begun + P.delay q.begun (P.n + r.reader) b ≡ t → q.begun ≡ r.begun
  only_one q iq before same arrives = elim (dec_le q.begun r.begun) [
    | yes u ↦ elim (dec_le r.begun q.begun) [
      | yes v ↦ omega arith
      | no v ↦ absurd (omega (arith, G.apart q r iq listed same (omega arith), G.delay_hi q.begun (P.n + r.reader) b))
    ]
    | no u ↦ absurd (omega (arith, G.apart r q listed iq (sym same) (omega arith)))
  ]

  abbrev hit : Read → Bool
  hit q = eqb (q.begun + P.delay q.begun (P.n + q.reader) b) t

  abbrev reaches : Read → Bool
  reaches q = ltb q.begun t && read_reaches P r.reader t b q

  pub asked_now : any (same_read r) (reads_in P t b) ≡ read_way P t r.reader t b
  unfolding reads_in same_read read_way
  asked_now = T_iff (any (same_read r) (reads_in P t b)) (any reaches P.reads)
      (λ y.
      let (q, iq, z) = any_in (same_read r) (reads_in P t b) y in
      let eb = eqb→eq r.begun q.begun (search and_l) in
      let er = eqb→eq r.reader q.reader (search (and_l, and_r)) in
      in_any reaches r P.reads listed (and_i (ltb r.begun t) _ (lt→ltb r.begun t began)
      (and_i (eqb r.reader r.reader) _ (eqb_refl r.reader) (same_arrival P b t r.begun q.begun r.reader q.reader eb er (in_filter hit q P.reads iq).1))))
      (λ y.
      let (q, iq, z) = any_in reaches P.reads y in
      let hits : T (eqb (q.begun + P.delay q.begun (P.n + r.reader) b) t) = search (and_l, and_r) in
      let eb = only_one q iq (ltb→lt q.begun t (search and_l)) (eqb→eq q.reader r.reader (search (and_l, and_r))) (eqb→eq _ t hits) in
      in_any (same_read r) r (reads_in P t b) (filter_in hit r P.reads listed (same_arrival P b t r.begun q.begun r.reader r.reader (sym eb) refl hits))
      (and_i (eqb r.begun r.begun) (eqb r.reader r.reader) (eqb_refl r.begun) (eqb_refl r.reader)))
