-- The readers' part of State over one tick: what a reader has noted, what is under way to it after stages 1 to 4, and both after the reads of the
-- tick have begun and its forged replies are posted. It stands on ReplyLaws and VoteLaws.
use mathlib.Core.Path.{◌≡◌, refl, sym, subst, ◌∙◌}
use mathlib.Core.Bool.{Bool, true, false, ◌&&◌, ◌||◌, and_assoc, and_comm, and-false, and-true, or-false, and-or_distrib_left}
use mathlib.Core.{Logic.inl, Logic.inr, List.List}
use Prim.Native.Nat.{ℕ, suc, ◌+◌, ◌-◌, ◌≤◌, ◌<◌}
use native.Mathlib.{Omega.arith, Decide.ℕ_discrete}
use lib.{Dec.eqb, Dec.leb, Dec.ltb, ListN.length, ListN.get_or}
use borrow.Author.Tests.{lt-ltb, le-ltb, le-leb, lt-leb, eq-eqb, ne_eqb}
use Rattle.register.specs as register-specs
use Rattle.register.specs.{Lists.any, Lists.In, Lists.member, Plan.Plan, Plan.Read, Plan.Forgery, Plan.read_end}
use Rattle.register.proofs.{Good.Good, Rising.member_map}
use Rattle.calendar.specs.Layout.{rows, row_of, sender}
use Rattle.limits.specs.Limits.{places}
use Rattle.calendar.proofs.Spans.{row_receiver, row_slot}
use Rattle.serving.specs as serving-specs
use Rattle.sending.specs as sending-specs
use Rattle.tallies.specs.Tallies.{named_at, of_reader, holds}
use Rattle.sending.specs.Sends.{Said}
use Rattle.cluster.specs as cluster-specs
use Rattle.tables.specs as tables-specs
use Rattle.cluster.specs.Tick.{Fed, Ticked, server_at, all_of, sent_by}
use Rattle.refinement.specs.{Way.forged_as, Way.reply_way, Way.heard_way, State.Open, State.Idle, State.Hears, State.State}
use Rattle.refinement.proofs.{NotedLaws.heard_end, RowLaws.open_or_idle, WayLaws.below, WayLaws.slot_is, VoteLaws.ended, VoteLaws.row_now}
use Rattle.refinement.proofs.ReplyLaws.{replies_in, replies_next, heard_next, replies_first, heard_first, replies_far, replies_over}

-- ---- what player does after stages 1 to 4

module _ (P : Plan) (m t : ℕ) where
  -- the reads of tick t have begun: their readers wait for the end and have noted nothing; the other readers, their rows of the table and those of the
  -- servers are as they were
  pub record Begins (a r sets then : List ℕ) : Type 0 where
    pub size : length r ≡ 4
    pub end : (q : Read) → In q P.reads → q.begun ≡ t → get_or r (q.reader - 1) 0 ≡ read_end P q
    pub named : (q : Read) → In q P.reads → q.begun ≡ t → (j i : ℕ) → j < m → holds then (of_reader (q.reader - 1) + j) i ≡ false
    pub rest : (x : ℕ) → 1 ≤ x → x ≤ 4 → ((q : Read) → In q P.reads → q.reader ≡ x → q.begun ≡ t → ⊥)
        → (get_or r (x - 1) 0 ≡ get_or a (x - 1) 0) × ((j i : ℕ) → j < m → holds then (of_reader (x - 1) + j) i ≡ holds sets (of_reader (x - 1) + j) i)
    pub votes : (c : ℕ) → c < named_at → get_or then c 0 ≡ get_or sets c 0

  -- f has the forged messages of tick t: votes to servers, and replies that arrive by the end of the reader's open read
  pub record Forges (g : ℕ → ℕ) (f : ℕ → ℕ → ℕ → Bool) : Type 0 where
    pub votes : (s b j i : ℕ) → t < s → s ≤ t + 16 → b < P.n → j < m
        → f (row_of s b) j i ≡ (ltb i P.n && any (λ (x : Forgery). eqb x.at t && forged_as P s b (g j) i x) P.forged)
    pub replies : (q : Read) → Open P (suc t) q → (s j i : ℕ) → t < s → s ≤ t + 16 → j < m
        → f (row_of s (15 + q.reader)) j i ≡ (ltb i P.n && (leb s (read_end P q) && any (λ (x : Forgery). eqb x.at t && forged_as P s (P.n + q.reader) (g j) i x) P.forged))
    pub none : (q : Read) → In q P.reads → Idle P (suc t) q.reader → (s j i : ℕ) → t < s → s ≤ t + 16 → j < m → f (row_of s (15 + q.reader)) j i ≡ false

-- ---- one tick

module _ (P : Plan) (G : Good P) (F : Fed) {g : ℕ → ℕ} (fit : cluster-specs.Inputs.Fits P g F.t F.plan F.rules F.m F.links F.arrivals F.movement)
    (K : tables-specs.Known.Knows P g F.m) (c : cluster-specs.declared.Cluster.Cluster) (r : List serving-specs.declared.Server.Server) (sets then work : List ℕ)
    (D : Ticked F c.ends c.servers r sets then work P.n) (S : State P g F.m F.t c sets F.work) where
  abbrev t : ℕ
  t = F.t

  abbrev m : ℕ
  m = F.m

  abbrev L : register-specs.Cluster.Log
  L = (register-specs.Cluster.cluster P t).log

  abbrev M : register-specs.Cluster.Log
  M = (register-specs.Cluster.cluster P (suc t)).log

  -- the tick in which the last read of reader x ends
  abbrev old : ℕ → ℕ
  old x = get_or c.ends (x - 1) 0

  -- what a reader with an open read has noted after stages 1 to 4
  pub noted_now : (q : Read) → Open P t q → (j i : ℕ) → j < m
      → holds then (of_reader (q.reader - 1) + j) i ≡ (ltb i P.n && (heard_way P L t q (g j) i || reply_way P L t q t (g j) i))
  noted_now q o j i h =
      let k = K.readers q o.listed in
      let e : 16 + (q.reader - 1) ≡ 15 + q.reader = omega arith in
      (rw e at (D.named (q.reader - 1) j i (omega arith) (omega (arith, K.few))))
      ∙ rw (S.readers.named q o j i h, S.calendar.replies q o t j i (omega arith) (omega arith) h)
      (sym (and-or_distrib_left (ltb i P.n) (heard_way P L t q (g j) i) (reply_way P L t q t (g j) i)))

  -- at its end, all that it has noted
  pub noted_end : (q : Read) → In q P.reads → t ≡ read_end P q → (j i : ℕ) → j < m → holds then (of_reader (q.reader - 1) + j) i ≡ (ltb i P.n && register-specs.Server.has (register-specs.Reading.noted_by P q) (g j) i)
  noted_end q l e j i h =
      noted_now q (record { listed = l; begun = omega (arith, G.delta_pos); lasts = omega arith }) j i h
      ∙ below i P.n _ _ (λ w. heard_end P G t q (g j) i w e)

  -- what server i says
  abbrev said_by : ℕ → Said
  said_by i = (all_of F i (server_at m sets c.servers i)).said

  -- what a server that said this posts to the reader of a read
  posted : (q : Read) → In q P.reads → (s j i : ℕ) (said : Said) → t < s → s ≤ t + 16 → i < P.n → sent_by F c.ends i said (row_of s (15 + q.reader)) j
      ≡ leb s (old q.reader) && ((said.readers q.reader && eqb (t + P.delay t i (P.n + q.reader)) s) && member j said.pairs)
  unfolding sending-specs.Sends.sends_vote sending-specs.Sends.sends_reply
  posted q l s j i said a b li =
      let k = K.readers q l in
      let f = fit.replies i q li l in
      let d : ℕ = P.delay t i (P.n + q.reader) in
      let u : 15 + q.reader - 15 ≡ q.reader = omega arith in
      let v : 15 + q.reader - 16 ≡ q.reader - 1 = omega arith in
      let late = subst (λ n. tables-specs.Links.link_delay F.plan F.links t i (n + q.reader) ≡ d) (sym fit.servers) f.1 in
      rw (
        row_receiver s (15 + q.reader) (omega arith),
        row_slot s (15 + q.reader) (omega arith),
        u,
        v,
        le-ltb (15 + q.reader) F.links.n (omega (arith, K.servers, fit.servers)),
        le-leb 16 (15 + q.reader) (omega arith),
        lt-ltb (F.links.n + q.reader) F.links.parties (omega (arith, f.0, fit.servers)),
        late,
        slot_is t d s (G.delay_lo t i (P.n + q.reader)) (omega (arith, G.delay_hi t i (P.n + q.reader), K.slow)) a b,
      )
      (elim (ℕ_discrete (t + d) s) [
        | yes e ↦ rw (eq-eqb (t + d) s e, e) (turn (said.readers q.reader) (leb s (old q.reader)) _)
        | no n ↦ rw (ne_eqb (t + d) s n) (simp and-false)
      ])
    where
      turn : (r e h : Bool) → r && (e && h) ≡ e && ((r && true) && h)
      turn r e h = rw (and-true r, ← and_assoc r e h, and_comm r e) (and_assoc e r h)

  -- the rows of a reader are taken in the tick
  own_row : (q : Read) → In q P.reads → (15 + q.reader < 20) × ((ltb (15 + q.reader) P.n || leb 16 (15 + q.reader)) ≡ true)
  own_row q l = let k = K.readers q l in (omega arith, rw (le-ltb (15 + q.reader) P.n (omega (arith, K.servers)), le-leb 16 (15 + q.reader) (omega arith)))

  -- what is under way to a reader with an open read after stages 1 to 4
  pub cells_open : (q : Read) → Open P t q → (s j i : ℕ) → t < s → s ≤ t + 16 → j < m
      → sender work (row_of s (15 + q.reader)) j i ≡ (ltb i P.n && (reply_way P L t q s (g j) i || (leb s (read_end P q) && replies_in P t q s (g j) i)))
  unfolding replies_in
  cells_open q o s j i a b h =
      let k = own_row q o.listed in
      row_now P G F fit K c r sets then work D S s (15 + q.reader) j i a b k.0 k.1 h (reply_way P L t q s (g j) i) (leb s (read_end P q) && replies_in P t q s (g j) i)
      (λ n. S.calendar.replies q o s j i (omega arith) n h) (λ e. replies_far P G t q s (g j) i L (omega (arith, K.slow)))
      (λ l.
      let e = (ended P G F fit K c r sets then work D S i l).sent in
      posted q o.listed s j i (said_by i) a b l ∙ rw (S.readers.end q o, e.readers q o.listed o.begun o.lasts, e.pairs, member_map g K.rising j (said_by i).pairs))

  -- nothing is under way to a reader with no open read
  pub cells_idle : (q : Read) → In q P.reads → Idle P t q.reader → (s j i : ℕ) → t < s → s ≤ t + 16 → j < m → sender work (row_of s (15 + q.reader)) j i ≡ false
  cells_idle q l o s j i a b h =
      let k = own_row q l in
      row_now P G F fit K c r sets then work D S s (15 + q.reader) j i a b k.0 k.1 h false false
      (λ n. S.calendar.none q l o s j i (omega arith) n h ∙ sym (and-false (ltb i P.n))) (λ e. refl)
      (λ n. posted q l s j i (said_by i) a b n ∙ rw (lt-leb s (old q.reader) (omega (arith, S.readers.idle q l o))))
      ∙ and-false (ltb i P.n)

  -- ---- the next state

  -- a read that is open in the next tick: it was open, or it begins and its reader had no other
  still_open : (q : Read) → Open P (suc t) q → q.begun < t → Open P t q
  still_open q o b = record { listed = o.listed; begun = b; lasts = omega (arith, o.lasts) }

  idle-before : (q : Read) → In q P.reads → q.begun ≡ t → Idle P t q.reader
  idle-before q l b p i e a = let z = G.apart p q i l e (omega arith) in omega arith

  module _ (after last : List ℕ) (B : Begins P m t c.ends after then last) where
    -- a reader with no open read takes nothing that is sent now: no read of it begins in the tick
    pub idle_now : (q : Read) → In q P.reads → Idle P (suc t) q.reader → get_or after (q.reader - 1) 0 ≤ t
    idle_now q l o =
        let k = K.readers q l in
        rw (B.rest q.reader k.0 k.1 (λ p i e a. omega (arith, o p i e (omega arith)))).0 (elim (open_or_idle P t q.reader) [
          | inl y ↦ (let e : old y.0.reader ≡ read_end P y.0 = S.readers.end y.0 y.1 in
              rw (← y.2) (omega (arith, e, o y.0 y.1.listed y.2 (omega (arith, y.1.begun)))))
          | inr y ↦ S.readers.idle q l y
        ])

    -- no read of its reader begins while a read is open
    rests : (q : Read) → Open P (suc t) q → q.begun < t → (p : Read) → In p P.reads → p.reader ≡ q.reader → p.begun ≡ t → ⊥
    rests q o b p i e a = omega (arith, o.lasts, G.apart q p o.listed i (sym e) (omega arith))

    hears-end : (q : Read) → Open P (suc t) q → get_or after (q.reader - 1) 0 ≡ read_end P q
    hears-end q o = elim (ℕ_discrete q.begun t) [
      | yes e ↦ B.end q o.listed e
      | no d ↦ (let b : q.begun < t = omega (arith, o.begun) in
          let k = K.readers q o.listed in
          (B.rest q.reader k.0 k.1 (rests q o b)).0 ∙ S.readers.end q (still_open q o b))
    ]

    hears-named : (q : Read) → Open P (suc t) q → (j i : ℕ) → j < m → holds last (of_reader (q.reader - 1) + j) i ≡ (ltb i P.n && heard_way P M (suc t) q (g j) i)
    hears-named q o j i h = elim (ℕ_discrete q.begun t) [
      | yes e ↦ B.named q o.listed e j i h ∙ sym (below i P.n _ false (λ l. heard_first P G t q (g j) i l e) ∙ and-false (ltb i P.n))
      | no d ↦ (let b : q.begun < t = omega (arith, o.begun) in
          let k = K.readers q o.listed in
          (B.rest q.reader k.0 k.1 (rests q o b)).1 j i h ∙ noted_now q (still_open q o b) j i h
          ∙ below i P.n _ _ (λ l. sym (heard_next P G t q (g j) i l (omega arith))))
    ]

    pub hears_next : Hears P g m (suc t) M after last
    hears_next = record {
      size = B.size;
      end = hears-end;
      named = hears-named;
      idle = λ q l o. omega (arith, idle_now q l o);
    }

  module _ (work' : List ℕ) (f : ℕ → ℕ → ℕ → Bool) (cells : (x j i : ℕ) → x < rows → j < places → sender work' x j i ≡ (sender work x j i || f x j i)) (Y : Forges P m t g f) where
    new-cells : (q : Read) → In q P.reads → (s j i : ℕ) → j < m
        → sender work' (row_of s (15 + q.reader)) j i ≡ sender work (row_of s (15 + q.reader)) j i || f (row_of s (15 + q.reader)) j i
    new-cells q l s j i h = let k = K.readers q l in cells (row_of s (15 + q.reader)) j i (omega arith) (omega (arith, K.few))

    pub way_next : (q : Read) → Open P (suc t) q → (s j i : ℕ) → suc t ≤ s → s < suc t + 16 → j < m
        → sender work' (row_of s (15 + q.reader)) j i ≡ (ltb i P.n && reply_way P M (suc t) q s (g j) i)
    way_next q o s j i a b h =
        new-cells q o.listed s j i h ∙ rw (Y.replies q o s j i (omega arith) (omega arith) h) (elim (ℕ_discrete q.begun t) [
          | yes e ↦ rw (cells_idle q o.listed (idle-before q o.listed e) s j i (omega arith) (omega arith) h)
              (below i P.n _ _ (λ l. sym (replies_first P G t q s (g j) i l e)))
          | no d ↦ rw (cells_open q (still_open q o (omega (arith, o.begun))) s j i (omega arith) (omega arith) h, ← and-or_distrib_left)
              (below i P.n _ _ (λ l. sym (replies_next P G t q s (g j) i l (omega (arith, o.begun)))))
        ])

    pub none_next : (q : Read) → In q P.reads → Idle P (suc t) q.reader → (s j i : ℕ) → suc t ≤ s → s < suc t + 16 → j < m → sender work' (row_of s (15 + q.reader)) j i ≡ false
    none_next q l o s j i a b h =
        new-cells q l s j i h ∙ rw (Y.none q l o s j i (omega arith) (omega arith) h, or-false) (elim (open_or_idle P t q.reader) [
          | inl y ↦ (let late : read_end P y.0 < s = omega (arith, o y.0 y.1.listed y.2 (omega (arith, y.1.begun))) in
              rw (← y.2, cells_open y.0 y.1 s j i (omega arith) (omega arith) h, replies_over P t y.0 s (g j) i L late, lt-leb s (read_end P y.0) late) (and-false (ltb i P.n)))
          | inr y ↦ cells_idle q l y s j i (omega arith) (omega arith) h
        ])
