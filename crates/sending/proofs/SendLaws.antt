-- What a server sends, posted: its votes; its replies, reader by reader. And nothing that is sent arrives in the
-- tick in which it is sent.
use mathlib.Core.Path.{◌≡◌, refl, sym, ◌∙◌}
use mathlib.Core.Bool.{Bool, true, false, not, ◌&&◌, ◌||◌, and-false, and_assoc, and-or_distrib_left}
use mathlib.Core.List.{List}
use Prim.Native.Nat.{ℕ, ◌+◌, ◌-◌, ◌/◌, ◌%◌, ◌^◌, ◌≤◌, ◌<◌}
use native.Mathlib.Omega.{arith}
use lib.Dec.{T, eqb, leb, ltb, eqb→eq, eqb_refl, leb→le, ltb→lt, T_not, not_T}
use lib.ListN.{get_or}
use borrow.Author.Tests.{lt-ltb, le-ltb, le-leb, lt-leb, eq-eqb, ne_eqb, eqb-true, ltb-true}
use Rattle.bits.proofs.Laws.{field_lt}
use Rattle.register.specs.Lists.{member}
use Rattle.register.proofs.Logic.{and_l, and_r, F_eq}
use Rattle.calendar.specs.declared.Stamped.{Stamped}
use Rattle.tables.specs.declared.sending.Sending.{Sending}
use Rattle.limits.specs.Bits.{bit}
use Rattle.calendar.specs.Layout.{receivers, rows, row_of}
use Rattle.limits.specs.Limits.{places}
use Rattle.calendar.specs.View.{Posted}
use Rattle.calendar.specs.Posts.{Messages, in_row, among, due_in, to_others}
use Rattle.tables.specs.Sending.{Sent}
use Rattle.calendar.proofs as calendar-laws
use Rattle.calendar.proofs.Posting.{posted_eq, posted_trans, posted_none}
use Rattle.sending.specs.declared.Sender.{Sender}
use Rattle.tables.specs.Links.{link_bit, link_delay}
use Rattle.tables.proofs.LinkLaws.{link_at}
use Rattle.sending.specs.Sends.{Said, reaches, sends_vote, sends_reply, sends, votes_for}
use Rattle.stores.specs.Stores.{keys}
use Rattle.limits.proofs.Bits.{bit_test}
use Rattle.stores.proofs.StoreLaws.{among_keys}

-- ---- its votes

module _ (plan : List ℕ) (s : Sender) where
  pub vote_or : (P Q : ℕ → Bool) (x j : ℕ) → sends_vote plan s P x j || sends_vote plan s Q x j ≡ sends_vote plan s (λ y. P y || Q y) x j
  unfolding sends_vote
  vote_or P Q x j = join (ltb (x % receivers) s.links.n) (not (eqb (x % receivers) s.i)) (eqb (reaches plan s (x % receivers) % 16) (x / receivers)) (P j) (Q j)
    where
      join : (b c d e f : Bool) → (b && (c && (d && e))) || (b && (c && (d && f))) ≡ b && (c && (d && (e || f)))
      join b c d e f = simp and-or_distrib_left

  -- a pair that is none of P
  pub vote_none : (P : ℕ → Bool) (x j : ℕ) → P j ≡ false → sends_vote plan s P x j ≡ false
  unfolding sends_vote
  vote_none P x j e =
      rw (e, and-false (eqb (reaches plan s (x % receivers) % 16) (x / receivers)), and-false (not (eqb (x % receivers) s.i))) (and-false (ltb (x % receivers) s.links.n))

  -- no vote for a known pair
  pub votes_nobody : (a : List ℕ) (w : ℕ) → places ≤ w → Posted a a (λ x j k. eqb k s.i && sends_vote plan s (λ y. eqb y w) x j)
  votes_nobody a w h = posted_none a _ (λ x j k l m. rw (vote_none (λ y. eqb y w) x j (ne_eqb j w (λ e. omega arith))) (and-false (eqb k s.i)))

  module _ (to : Sending) (S : Sent plan (link_bit s.links s.t s.i 0) s.links.n s.t s.i to) where
    others-sent : (P : ℕ → Bool) (x j k : ℕ) → to_others to P x j k ≡ eqb k s.i && sends_vote plan s P x j
    unfolding due_in sends_vote
    others-sent P x j k =
        let b = x % receivers in
        let on : Bool = eqb (reaches plan s b % 16) (x / receivers) in
        calendar-laws.Laws.under (ltb b to.n) _ ((not (eqb b to.sender) && on) && (eqb k to.sender && P j))
        (λ e. rw (S.arrives b (rw S.servers at (ltb-true b to.n e)), link_at s.links s.t s.i b))
        ∙ rw (S.servers, S.sender) (turn (ltb b s.links.n) (not (eqb b s.i)) on (eqb k s.i) (P j))
      where
        turn : (l a b k p : Bool) → l && ((a && b) && (k && p)) ≡ k && (l && (a && (b && p)))
        turn true true true k p = refl
        turn true true false k p = sym (and-false k)
        turn true false b k p = sym (and-false k)
        turn false a b k p = sym (and-false k)

    pub votes_sent_lem : (P : ℕ → Bool) (a b : List ℕ) → Posted a b (to_others to P) → Posted a b (λ x j k. eqb k s.i && sends_vote plan s P x j)
    votes_sent_lem P a b A = posted_eq a b _ _ A (λ x j k l m. others-sent P x j k)

    pub echo_sent : (kept : List Stamped) (a b : List ℕ) → Posted a b (to_others to (among kept))
        → Posted a b (λ x j k. eqb k s.i && sends_vote plan s (λ y. member y (keys kept)) x j)
    unfolding sends_vote
    echo_sent kept a b A = posted_eq a b _ _ A (λ x j k l m. others-sent (among kept) x j k ∙ rw (among_keys kept j))

-- ---- its replies

module _ (plan : List ℕ) (s : Sender) (ends : List ℕ) (R P : ℕ → Bool) where
  pub reply_none : (x j : ℕ) → ((y : ℕ) → R y ≡ false) → sends_reply plan s ends R P x j ≡ false
  unfolding sends_reply
  reply_none x j e = rw (e (x % receivers - 15)) (and-false (leb 16 (x % receivers)))

module _ (plan : List ℕ) (s : Sender) (ends : List ℕ) (readers : ℕ) (kept : List Stamped) where
  -- those that name the pairs of a store to the readers of a set
  abbrev replies : ℕ → ℕ → Bool
  replies x j = sends_reply plan s ends (λ y. bit y readers) (λ y. member y (keys kept)) x j

  -- those to the readers below y
  abbrev pub replies_below : ℕ → Messages
  replies_below y x j k = ltb (x % receivers) (15 + y) && (eqb k s.i && sends_reply plan s ends (λ y. bit y readers) (λ y. member y (keys kept)) x j)

  reply-at : (x j y : ℕ) → x % receivers ≡ 15 + y → 1 ≤ y
      → replies x j
      ≡ bit y readers
      && (ltb (s.links.n + y) s.links.parties
      && (leb (reaches plan s (s.links.n + y)) (get_or ends (y - 1) 0)
      && (eqb (reaches plan s (s.links.n + y) % 16) (x / receivers) && member j (keys kept))))
  unfolding sends_reply
  reply-at x j y e h =
      let p : 15 + y - 15 ≡ y = omega arith in
      let q : 15 + y - 16 ≡ y - 1 = omega arith in
      rw (e, le-leb 16 (15 + y) (omega arith), p, q)

  -- a reply is for a reader
  pub replies_first : (a : List ℕ) → Posted a a (replies_below 1)
  unfolding sends_reply
  replies_first a =
      posted_none a _
      (λ x j k l m. calendar-laws.Laws.never (ltb (x % receivers) 16) _ (λ e. rw (lt-leb 16 (x % receivers) (ltb-true (x % receivers) 16 e)) (and-false (eqb k s.i))))

  replies-more : (a r w : List ℕ) (y : ℕ) (f : Messages) → Posted a r (replies_below y) → Posted r w f
      → ((x j k : ℕ) → x < rows → f x j k ≡ eqb (x % receivers) (15 + y) && (eqb k s.i && replies x j)) → Posted a w (replies_below (y + 1))
  replies-more a r w y f A B e =
      posted_eq a w _ _ (posted_trans a r w _ _ A B)
      (λ x j k l m.
      let p : 15 + (y + 1) ≡ 15 + y + 1 = omega arith in
      rw (e x j k l, p) (calendar-laws.Laws.ltb_more (x % receivers) (15 + y) (eqb k s.i && replies x j)))

  -- one more reader, who gets nothing
  replies_none : (a r : List ℕ) (y : ℕ) → Posted a r (replies_below y) → ((x j : ℕ) → x % receivers ≡ 15 + y → replies x j ≡ false) → Posted a r (replies_below (y + 1))
  replies_none a r y A e =
      replies-more a r r y (λ x j k. false) A (posted_none r _ (λ x j k l m. refl))
      (λ x j k l. sym (calendar-laws.Laws.never (eqb (x % receivers) (15 + y)) _ (λ q. rw (e x j (eqb-true (x % receivers) (15 + y) q)) (and-false (eqb k s.i)))))

  module _ (a r : List ℕ) (y : ℕ) (h : 1 ≤ y) (A : Posted a r (replies_below y)) where
    pub replies_unasked : (readers / 2 ^ y % 2 ≡ 1 → ⊥) → Posted a r (replies_below (y + 1))
    replies_unasked d =
        let e : bit y readers ≡ false = sym (bit_test y readers) ∙ ne_eqb (readers / 2 ^ y % 2) 1 d in
        replies_none a r y A (λ x j p. reply-at x j y p h ∙ rw e)

    pub replies_absent : s.links.parties ≤ s.links.n + y → Posted a r (replies_below (y + 1))
    replies_absent e = replies_none a r y A (λ x j p. reply-at x j y p h ∙ rw (le-ltb (s.links.n + y) s.links.parties e) (and-false (bit y readers)))

    pub replies_late : get_or ends (y - 1) 0 < reaches plan s (s.links.n + y) → Posted a r (replies_below (y + 1))
    replies_late e =
        replies_none a r y A
        (λ x j p. reply-at x j y p h
        ∙ rw (lt-leb (reaches plan s (s.links.n + y)) (get_or ends (y - 1) 0) e, and-false (ltb (s.links.n + y) s.links.parties)) (and-false (bit y readers)))

    pub replies_sent : (w : List ℕ) → y < 5 → readers / 2 ^ y % 2 ≡ 1 → s.links.n + y < s.links.parties → reaches plan s (s.links.n + y) ≤ get_or ends (y - 1) 0
        → Posted r w (in_row (row_of (reaches plan s (s.links.n + y)) (15 + y)) s.i (among kept)) → Posted a w (replies_below (y + 1))
    replies_sent w g u p l B = replies-more a r w y _ A B (λ x j k m.
        let at = reaches plan s (s.links.n + y) in
        let e : bit y readers ≡ true = sym (bit_test y readers) ∙ eq-eqb (readers / 2 ^ y % 2) 1 u in
        rw (calendar-laws.Stores.same_row x at (15 + y) m (omega arith), and_assoc (eqb (x % receivers) (15 + y)) (eqb (at % 16) (x / receivers)) (eqb k s.i && among kept j), among_keys kept j)
        (calendar-laws.Laws.under (eqb (x % receivers) (15 + y)) _ _ (λ q.
        rw (reply-at x j y (eqb-true (x % receivers) (15 + y) q) h, e, lt-ltb (s.links.n + y) s.links.parties p, le-leb at (get_or ends (y - 1) 0) l)
        (turn (eqb k s.i) (eqb (at % 16) (x / receivers)) (member j (keys kept))))))
      where
        turn : (d q f : Bool) → q && (d && f) ≡ d && (q && f)
        turn true q f = refl
        turn false q f = and-false q

  pub replies_last : (a r : List ℕ) → Posted a r (replies_below 5)
      → Posted a r (λ x j k. eqb k s.i && sends_reply plan s ends (λ y. bit y readers) (λ y. member y (keys kept)) x j)
  replies_last a r A = posted_eq a r _ _ A (λ x j k l m. rw (lt-ltb (x % receivers) 20 (omega arith)))

-- ---- nothing arrives in the tick in which it is sent

module _ (plan : List ℕ) (s : Sender) (few : s.links.n < s.links.parties) (own : s.i < s.links.n)
    (later : (q : ℕ) → q < s.links.parties → (q ≡ s.i → ⊥) → (q ≡ s.links.n → ⊥) → 1 ≤ link_delay plan s.links s.t s.i q) where
  other-tick : (x q : ℕ) → q < s.links.parties → (q ≡ s.i → ⊥) → (q ≡ s.links.n → ⊥) → x / receivers ≡ s.t % 16 → T (eqb (reaches plan s q % 16) (x / receivers)) → ⊥
  other-tick x q l d w e y =
      let short : link_delay plan s.links s.t s.i q < 16 = field_lt plan (link_bit s.links s.t s.i q) 4 in
      let p : (s.t + link_delay plan s.links s.t s.i q) % 16 ≡ x / receivers = eqb→eq _ _ y in
      omega (arith, later q l d w)

  pub no_vote : (P : ℕ → Bool) (x j : ℕ) → x / receivers ≡ s.t % 16 → sends_vote plan s P x j ≡ false
  unfolding sends_vote
  no_vote P x j e = F_eq (sends_vote plan s P x j) (not_T (sends_vote plan s P x j) (λ y.
      let l = ltb→lt (x % receivers) s.links.n (search and_l) in
      let d : T (not (eqb (x % receivers) s.i)) = search (and_l, and_r) in
      other-tick x (x % receivers) (omega arith) (λ w. T_not (eqb (x % receivers) s.i) d (rw w (eqb_refl s.i))) (λ w. omega arith) e (search (and_l, and_r))))

  pub no_reply : (ends : List ℕ) (R P : ℕ → Bool) (x j : ℕ) → x / receivers ≡ s.t % 16 → sends_reply plan s ends R P x j ≡ false
  unfolding sends_reply
  no_reply ends R P x j e = F_eq (sends_reply plan s ends R P x j) (not_T (sends_reply plan s ends R P x j) (λ y.
      let l = leb→le 16 (x % receivers) (search and_l) in
      let q = s.links.n + (x % receivers - 15) in
      other-tick x q (ltb→lt q s.links.parties (search (and_l, and_r))) (λ w. omega arith) (λ w. omega arith) e (search (and_l, and_r))))

  pub none_now : (ends : List ℕ) (said : Said) (x j : ℕ) → x / receivers ≡ s.t % 16 → sends plan s ends said x j ≡ false
  none_now ends said x j e = rw (no_vote (votes_for said) x j e, no_reply ends said.readers (λ y. member y said.pairs) x j e)
