-- Posting the pairs of a store, place by place, and posting to all other servers, one by one. It stands on Posting.
use mathlib.Core.Path.{◌≡◌, refl, sym, ◌∙◌}
use mathlib.Core.Bool.{Bool, false, ◌&&◌, ◌||◌, and-false, and_assoc, or_assoc, or-false, and-or_distrib_left}
use mathlib.Core.List.{List, [], ◌∷◌}
use Prim.Native.Nat.{ℕ, zero, suc, ◌+◌, ◌/◌, ◌%◌, ◌≤◌, ◌<◌, min, max}
use native.Mathlib.Omega.{arith}
use native.Mathlib.Decide.{ℕ_discrete}
use native.Mathlib.Numerals.{add-one}
use lib.Dec.{eqb}
use lib.ListN.{length, get_or}
use borrow.Author.Tests.{eq-eqb, ne_eqb, eqb-true}
use Rattle.calendar.specs.declared.Stamped.{Stamped}
use Rattle.tables.specs.declared.sending.Sending.{Sending}
use Rattle.calendar.specs.Layout.{rows, calendar_size, receivers, row_of}
use Rattle.limits.specs.Limits.{places, no_pair}
use Rattle.calendar.specs.View.{Posted}
use Rattle.calendar.specs.Posts.{in_row, among_first, vacant, SpanOf, due_in, to_first}
use Rattle.tables.specs.Sending.{arrival_of}
use Rattle.calendar.proofs.Laws.{eqb_both, under, never, ltb_more}
use Rattle.calendar.proofs.Posting.{posted_eq, posted_trans, Filled, added, filled_eq, filled_none, filled_more, span_eq, span_none, span_more}

-- ---- the pairs of a store

join : (a b c d : Bool) → (a && (b && c)) || (a && (b && d)) ≡ a && (b && (c || d))
join a b c d = simp and-or_distrib_left

-- the first n places of a store are not empty
abbrev pub Full : ℕ → List Stamped → Type 0
Full n ps = (q : ℕ) → q < n → (get_or ps q vacant).number ≡ no_pair → ⊥

among_more : (n : ℕ) (ps : List Stamped) (j : ℕ) → Full n ps → n < length ps → ((get_or ps n vacant).number ≡ no_pair → ⊥) → among_first (suc n) ps j ≡ among_first n ps j || eqb j (get_or ps n vacant).number
unfolding among_first
among_more n [] j F l e = absurd (omega arith)
among_more zero (p ∷ ps) j F l e = rw (ne_eqb p.number no_pair e) (or-false (eqb j p.number))
among_more (suc n) (p ∷ ps) j F l e =
    rw (ne_eqb p.number no_pair (F 0 (omega arith)), among_more n ps j (λ q h. F (suc q) (omega arith)) (omega arith) e) (sym (or_assoc (eqb j p.number) (among_first n ps j) (eqb j (get_or ps n vacant).number)))

among_stop : (n k : ℕ) (ps : List Stamped) (j : ℕ) → Full n ps → n ≤ k → (get_or ps n vacant).number ≡ no_pair → among_first k ps j ≡ among_first n ps j
unfolding among_first
among_stop zero zero ps j F l e = refl
among_stop zero (suc k) [] j F l e = refl
among_stop zero (suc k) (p ∷ ps) j F l e = rw (eq-eqb p.number no_pair e)
among_stop (suc n) zero ps j F l e = absurd (omega arith)
among_stop (suc n) (suc k) [] j F l e = refl
among_stop (suc n) (suc k) (p ∷ ps) j F l e = rw (ne_eqb p.number no_pair (F 0 (omega arith)), among_stop n k ps j (λ q h. F (suc q) (omega arith)) (omega arith) e)

-- a place whose pair is not a known one
among_past : (n : ℕ) (ps : List Stamped) (j : ℕ) → Full n ps → n < length ps → ((get_or ps n vacant).number ≡ no_pair → ⊥) → places ≤ (get_or ps n vacant).number
    → j < places → among_first (suc n) ps j ≡ among_first n ps j
among_past n ps j F l e g h = among_more n ps j F l e ∙ rw (ne_eqb j (get_or ps n vacant).number (λ d. omega arith)) (or-false (among_first n ps j))

-- the place at q is not empty, nor is one before it
module _ (kept : List Stamped) (q : ℕ) (F : Full q kept) (l : q < length kept) (e : (get_or kept q vacant).number ≡ no_pair → ⊥) where
  pub span_turn : (low high : ℕ) → (get_or kept q vacant).number < places → SpanOf (among_first q kept) low high
      → SpanOf (among_first (q + 1) kept) (min low (get_or kept q vacant).number) (max high ((get_or kept q vacant).number + 1))
  span_turn low high h S =
      span_eq _ _ _ _ (span_more (among_first q kept) low high (get_or kept q vacant).number h S) (λ j m. rw (add-one q, among_more q kept j F l e))

  pub span_skip : (low high : ℕ) → places ≤ (get_or kept q vacant).number → SpanOf (among_first q kept) low high → SpanOf (among_first (q + 1) kept) low high
  span_skip low high h S = span_eq (among_first q kept) _ low high S (λ j m. rw (add-one q, among_past q kept j F l e h m))

  pub kept_turn : (row i : ℕ) (a r : List ℕ) → row < rows → calendar_size ≤ length r → (get_or kept q vacant).number < places
      → Filled a r (in_row row i (among_first q kept)) → Filled a (added r row (get_or kept q vacant).number i) (in_row row i (among_first (q + 1) kept))
  kept_turn row i a r hr size h A =
      filled_eq a _ _ _ (filled_more a r _ row (get_or kept q vacant).number i hr h size A)
      (λ x j k n m. rw (add-one q, among_more q kept j F l e) (join (eqb x row) (eqb k i) (among_first q kept j) (eqb j (get_or kept q vacant).number)))

  pub kept_skip : (row i : ℕ) (a r : List ℕ) → places ≤ (get_or kept q vacant).number → Filled a r (in_row row i (among_first q kept))
      → Filled a r (in_row row i (among_first (q + 1) kept))
  kept_skip row i a r h A = filled_eq a r _ _ A (λ x j k n m. rw (add-one q, among_past q kept j F l e h m))

-- the place at q is empty, and none before it
module _ (kept : List Stamped) (q n : ℕ) (F : Full q kept) (l : q ≤ n) (e : (get_or kept q vacant).number ≡ no_pair) where
  pub span_stop : (low high : ℕ) → SpanOf (among_first q kept) low high → SpanOf (among_first n kept) low high
  span_stop low high S = span_eq (among_first q kept) _ low high S (λ j m. sym (among_stop q n kept j F l e))

  pub kept_stop : (row i : ℕ) (a r : List ℕ) → Filled a r (in_row row i (among_first q kept)) → Filled a r (in_row row i (among_first n kept))
  kept_stop row i a r A = filled_eq a r _ _ A (λ x j k h m. rw (among_stop q n kept j F l e))

pub span_first : (kept : List Stamped) → SpanOf (among_first 0 kept) no_pair 0
unfolding among_first
span_first kept = span_none _ (λ j m. refl)

pub kept_first : (kept : List Stamped) (row i : ℕ) (a : List ℕ) → Filled a a (in_row row i (among_first 0 kept))
unfolding among_first
kept_first kept row i a = filled_none a _ (λ x j k l m. rw (and-false (eqb k i)) (and-false (eqb x row)))

pub full_more : (q : ℕ) (ps : List Stamped) → Full q ps → ((get_or ps q vacant).number ≡ no_pair → ⊥) → Full (q + 1) ps
full_more q ps F e y h = elim (ℕ_discrete y q) [ yes d ↦ (λ k. e (rw d at k)) | no d ↦ F y (omega arith) ]

-- ---- to all other servers

pub same_row : (x u b : ℕ) → x < rows → b < receivers → eqb x (row_of u b) ≡ eqb (x % receivers) b && eqb (u % 16) (x / receivers)
same_row x u b hx hb = eqb_both x (row_of u b) (x % receivers) b (u % 16) (x / receivers) (λ e. (omega arith, omega arith)) (λ p q. omega arith)

module _ (s : Sending) (P : ℕ → Bool) where
  -- the messages with pair j of sender k that reach the row
  sent : ℕ → ℕ → ℕ → Bool
  sent x j k = due_in s x && (eqb k s.sender && P j)

  to_one : (x j k b : ℕ) → x < rows → b < receivers → (b ≡ s.sender → ⊥)
      → in_row (row_of (arrival_of s b) b) s.sender P x j k ≡ eqb (x % receivers) b && sent x j k
  unfolding sent due_in
  to_one x j k b hx hb d =
      rw (same_row x (arrival_of s b) b hx hb, and_assoc (eqb (x % receivers) b) _ (eqb k s.sender && P j))
      (under (eqb (x % receivers) b) _ _ (λ e. rw (eqb-true (x % receivers) b e, ne_eqb b s.sender d)))

  to-self : (x j k b : ℕ) → b ≡ s.sender → eqb (x % receivers) b && sent x j k ≡ false
  unfolding sent due_in
  to-self x j k b d = never (eqb (x % receivers) b) _ (λ e. rw (eq-eqb (x % receivers) s.sender (eqb-true (x % receivers) b e ∙ d)))

  pub others_yes : (a r w : List ℕ) (b : ℕ) → b < 16 → (b ≡ s.sender → ⊥) → Posted a r (to_first s b P)
      → Posted r w (in_row (row_of (arrival_of s b) b) s.sender P) → Posted a w (to_first s (b + 1) P)
  unfolding sent
  others_yes a r w b h d A B =
      posted_eq a w _ _ (posted_trans a r w _ _ A B)
      (λ x j k l m. rw (to_one x j k b l (omega arith) d) (ltb_more (x % receivers) b (sent x j k)))

  pub others_self : (a r : List ℕ) (b : ℕ) → b ≡ s.sender → Posted a r (to_first s b P) → Posted a r (to_first s (b + 1) P)
  unfolding sent
  others_self a r b d A =
      posted_eq a r _ _ A
      (λ x j k l m. sym (or-false (to_first s b P x j k)) ∙ (rw (← to-self x j k b d) refl ∙ ltb_more (x % receivers) b (sent x j k)))
