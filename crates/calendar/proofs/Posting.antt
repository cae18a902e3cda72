-- What posting adds: to the cells of a row, and to its span.
use mathlib.Core.Path.{◌≡◌, refl, sym, ap, ◌∙◌}
use mathlib.Core.Bool.{Bool, true, false, ◌&&◌, ◌||◌, and-false, and-true, or_assoc, or-false, or-true, false≢true}
use mathlib.Core.List.{List}
use Prim.Native.Nat.{ℕ, ◌+◌, ◌*◌, ◌-◌, ◌^◌, ◌≤◌, ◌<◌, min, max}
use native.Mathlib.Omega.{arith}
use native.Mathlib.Decide.{ℕ_discrete}
use lib.Dec.{eqb}
use lib.ListN.{length, get_or, length-set}
use lib.Bits.{bit_or}
use borrow.Author.Tests.{eq-eqb, eqb-true}
use Rattle.register.proofs.Logic.{and_both, neither}
use Rattle.calendar.specs.Words.{word_of, put_word}
use Rattle.calendar.specs.Layout.{calendar_size, cells_at, rows, cell_word, low_of, high_of, senders_of, sender}
use Rattle.limits.specs.Limits.{places, no_pair}
use Rattle.calendar.specs.View.{SamePast, Inside, Posted}
use Rattle.calendar.specs.Posts.{Messages, in_row, SpanOf, widened}
use Rattle.calendar.proofs.Laws.{or_either, eqb_both, two_other, two_first, two_second, word_same, put_length, put_byte, put_member}

-- ---- the relation

pub posted_eq : (a r : List ℕ) (f h : Messages) → Posted a r f → ((x j k : ℕ) → x < rows → j < places → f x j k ≡ h x j k) → Posted a r h
posted_eq a r f h A e = record {
  rest = A.rest;
  cells = λ x j k l m. A.cells x j k l m ∙ rw (e x j k l m);
  wider = A.wider;
  grown = λ x j k l m q. A.grown x j k l m (e x j k l m ∙ q);
  top = λ x m l u g. A.top x m l u (λ j k n q. g j k n (sym (e x j k l n) ∙ q));
  bottom = λ x m l u g. A.bottom x m l u (λ j k n q. g j k n (sym (e x j k l n) ∙ q));
  still = λ x l g. A.still x l (λ j k n. e x j k l n ∙ g j k n);
}

pub posted_trans : (a b c : List ℕ) (f h : Messages) → Posted a b f → Posted b c h → Posted a c (λ x j k. f x j k || h x j k)
posted_trans a b c f h A B = record {
  rest = record { size = B.rest.size ∙ A.rest.size; past = λ k l. B.rest.past k l ∙ A.rest.past k l };
  cells = λ x j k l m. B.cells x j k l m ∙ rw (A.cells x j k l m) (or_assoc (sender a x j k) (f x j k) (h x j k));
  wider = λ x j l i. B.wider x j l (A.wider x j l i);
  grown = λ x j k l m q. or_either (Inside c x j) (f x j k) (h x j k) q (λ p. B.wider x j l (A.grown x j k l m p)) (λ p. B.grown x j k l m p);
  top = λ x m l u g. B.top x m l (A.top x m l u (λ j k n q. g j k n (rw q))) (λ j k n q. g j k n (rw q (or-true (f x j k))));
  bottom = λ x m l u g. B.bottom x m l (A.bottom x m l u (λ j k n q. g j k n (rw q))) (λ j k n q. g j k n (rw q (or-true (f x j k))));
  still = λ x l g.
      let p = A.still x l (λ j k n. (neither (f x j k) (h x j k) (g j k n)).0) in
      let q = B.still x l (λ j k n. (neither (f x j k) (h x j k) (g j k n)).1) in
      (q.0 ∙ p.0, q.1 ∙ p.1);
}

pub posted_none : (a : List ℕ) (f : Messages) → ((x j k : ℕ) → x < rows → j < places → f x j k ≡ false) → Posted a a f
posted_none a f e = record {
  rest = record { size = refl; past = λ k l. refl };
  cells = λ x j k l m. rw (e x j k l m) (sym (or-false (sender a x j k)));
  wider = λ x j l i. i;
  grown = λ x j k l m q. absurd (false≢true (sym (e x j k l m) ∙ q));
  top = λ x m l u g. u;
  bottom = λ x m l u g. u;
  still = λ x l g. (refl, refl);
}

-- ---- the cells

pub same_cell : (x row y j : ℕ) → y < places → j < places → eqb (cell_word x y) (cell_word row j) ≡ eqb x row && eqb y j
same_cell x row y j hy hj = eqb_both (cell_word x y) (cell_word row j) x row y j (λ e. (omega arith, omega arith)) (λ e d. omega arith)

-- the messages of f are in their cells, and the spans stay
pub record Filled (a r : List ℕ) (f : Messages) : Type 0 where
  pub rest : SamePast a r
  pub front : (k : ℕ) → k < 2 * cells_at → get_or r k 0 ≡ get_or a k 0
  pub cells : (x j i : ℕ) → x < rows → j < places → sender r x j i ≡ (sender a x j i || f x j i)

pub filled_eq : (a r : List ℕ) (f h : Messages) → Filled a r f → ((x j k : ℕ) → x < rows → j < places → f x j k ≡ h x j k) → Filled a r h
filled_eq a r f h A e = record { rest = A.rest; front = A.front; cells = λ x j k l m. A.cells x j k l m ∙ rw (e x j k l m) }

pub filled_none : (a : List ℕ) (f : Messages) → ((x j k : ℕ) → x < rows → j < places → f x j k ≡ false) → Filled a a f
filled_none a f e = record {
  rest = record { size = refl; past = λ k l. refl };
  front = λ k l. refl;
  cells = λ x j k l m. rw (e x j k l m) (sym (or-false (sender a x j k)));
}

turn : (d f a b c : Bool) → (d || f) || ((a && b) && c) ≡ d || (f || (a && (c && b)))
turn d f true true c = rw (or_assoc d f c, and-true c)
turn d f true false c = rw (or_assoc d f false, and-false c)
turn d f false b c = or_assoc d f false

-- a cell with one sender more
unfoldable pub added : List ℕ → ℕ → ℕ → ℕ → List ℕ
added a row j i = put_word a (cell_word row j) (bit_or (senders_of a row j) (2 ^ i))

pub filled_more : (a r : List ℕ) (f : Messages) (row j i : ℕ) → row < rows → j < places → calendar_size ≤ length r → Filled a r f
    → Filled a (added r row j i) (λ x y k. f x y k || in_row row i (λ z. eqb z j) x y k)
unfolding added
filled_more a r f row j i hr hj size F = record {
  rest = record {
    size = put_length r (cell_word row j) _ ∙ F.rest.size;
    past = λ k l. put_byte r (cell_word row j) _ k (λ e. omega arith) (λ e. omega arith) ∙ F.rest.past k l;
  };
  front = λ k l. put_byte r (cell_word row j) _ k (λ e. omega arith) (λ e. omega arith) ∙ F.front k l;
  cells = λ x y k l m. put_member r (cell_word row j) i (cell_word x y) k (omega arith)
      ∙ rw (same_cell x row y j m hj, F.cells x y k l m) (turn (sender a x y k) (f x y k) (eqb x row) (eqb y j) (eqb k i));
}

-- ---- the span

pub span_eq : (P Q : ℕ → Bool) (low high : ℕ) → SpanOf P low high → ((j : ℕ) → j < places → P j ≡ Q j) → SpanOf Q low high
span_eq P Q low high S e = record {
  inside = λ j l q. S.inside j l (e j l ∙ q);
  top = λ m g. S.top m (λ j l q. g j l (sym (e j l) ∙ q));
  bottom = λ m h g. S.bottom m h (λ j l q. g j l (sym (e j l) ∙ q));
}

pub span_none : (P : ℕ → Bool) → ((j : ℕ) → j < places → P j ≡ false) → SpanOf P no_pair 0
span_none P e = record {
  inside = λ j l q. absurd (false≢true (sym (e j l) ∙ q));
  top = λ m g. omega arith;
  bottom = λ m h g. h;
}

pub span_one : (j : ℕ) → j < places → SpanOf (λ y. eqb y j) j (j + 1)
span_one j h = record {
  inside = λ y l q. let e = eqb-true y j q in (omega arith, omega arith);
  top = λ m g. omega (arith, g j h (eq-eqb j j refl));
  bottom = λ m l g. g j h (eq-eqb j j refl);
}

pub span_more : (P : ℕ → Bool) (low high j : ℕ) → j < places → SpanOf P low high → SpanOf (λ y. P y || eqb y j) (min low j) (max high (j + 1))
span_more P low high j h S = record {
  inside = λ y l q. or_either ((min low j ≤ y) × (y < max high (j + 1))) (P y) (eqb y j) q
      (λ p. let s = S.inside y l p in (omega (arith, s.0), omega (arith, s.1)))
      (λ p. let e = eqb-true y j p in (omega arith, omega arith));
  top = λ m g. omega (arith, S.top m (λ y l q. g y l (rw q)), g j h (rw (eq-eqb j j refl) (or-true (P j))));
  bottom = λ m l g. omega (arith, S.bottom m l (λ y n q. g y n (rw q)), g j h (rw (eq-eqb j j refl) (or-true (P j))));
}

module _ (s : List ℕ) (row low high : ℕ) where
  pub widened_length : length (widened s row low high) ≡ length s
  unfolding widened
  widened_length = simp length-set

  widened-byte : (k : ℕ) → (k ≡ 2 * row → ⊥) → (k ≡ 2 * row + 1 → ⊥) → get_or (widened s row low high) k 0 ≡ get_or s k 0
  unfolding widened
  widened-byte k = two_other s (2 * row) _ _ k

  widened_word : (v : ℕ) → (v ≡ row → ⊥) → word_of (widened s row low high) v ≡ word_of s v
  widened_word v h =
      word_same s (widened s row low high) v (widened-byte (2 * v) (λ e. h (omega arith)) (λ e. omega arith))
      (widened-byte (2 * v + 1) (λ e. omega arith) (λ e. h (omega arith)))

-- ---- both

-- the span is widened to what is put into the cells
module _ (a r : List ℕ) (row low high i : ℕ) (P : ℕ → Bool) (hr : row < rows) (size : calendar_size ≤ length a) (S : SpanOf P low high)
    (F : Filled (widened a row low high) r (in_row row i P)) where
  here-low : get_or r (2 * row) 0 ≡ max (get_or a (2 * row) 0) (no_pair - low)
  unfolding widened
  here-low = F.front (2 * row) (omega arith) ∙ two_first a (2 * row) _ _ (omega arith)

  here-high : high_of r row ≡ max (high_of a row) high
  unfolding widened
  here-high = F.front (2 * row + 1) (omega arith) ∙ two_second a (2 * row) _ _ (omega arith)

  -- the spans of the other rows stay
  there : (x : ℕ) → x < rows → (x ≡ row → ⊥) → (low_of r x ≡ low_of a x) × (high_of r x ≡ high_of a x)
  there x l d = (
    ap (λ (b : ℕ). no_pair - b) (F.front (2 * x) (omega arith) ∙ widened-byte a row low high (2 * x) (λ e. d (omega arith)) (λ e. omega arith)),
    F.front (2 * x + 1) (omega arith) ∙ widened-byte a row low high (2 * x + 1) (λ e. omega arith) (λ e. d (omega arith)),
  )

  here : (x j : ℕ) → x ≡ row → P j ≡ true → in_row row i P x j i ≡ true
  here x j e q = rw (eq-eqb x row e, eq-eqb i i refl) q

  pub widened_posted : Posted a r (in_row row i P)
  widened_posted = record {
    rest = record {
      size = F.rest.size ∙ widened_length a row low high;
      past = λ k l. F.rest.past k l ∙ widened-byte a row low high k (λ e. omega arith) (λ e. omega arith);
    };
    cells = λ x y k l m. F.cells x y k l m ∙ rw (widened_word a row low high (cell_word x y) (λ e. omega arith));
    wider = λ x y l n. elim (ℕ_discrete x row) [
      | yes e ↦ let p = rw e at n in rw (e, here-low, here-high) (omega (arith, p.0), omega (arith, p.1))
      | no d ↦ rw ((there x l d).0, (there x l d).1) n
    ];
    grown = λ x y k l m q.
        let b = and_both (eqb x row) (eqb k i && P y) q in
        let s = S.inside y m (and_both (eqb k i) (P y) b.1).1 in
        rw (eqb-true x row b.0, here-low, here-high) (omega (arith, s.0), omega (arith, s.1));
    top = λ x m l u g. elim (ℕ_discrete x row) [
      | yes e ↦ rw (e, here-high) (omega (arith, rw e at u, S.top m (λ j h q. g j i h (here x j e q))))
      | no d ↦ rw (there x l d).1 u
    ];
    bottom = λ x m l u g. elim (ℕ_discrete x row) [
      | yes e ↦ let v = rw e at u in rw (e, here-low) (omega (arith, v, S.bottom m (omega (arith, v)) (λ j h q. g j i h (here x j e q))))
      | no d ↦ rw (there x l d).0 u
    ];
    still = λ x l g. elim (ℕ_discrete x row) [
      | yes e ↦
          let none : (j : ℕ) → j < places → P j ≡ true → ⊥ = λ j h q. false≢true (sym (g j i h) ∙ here x j e q) in
          let t = S.top 0 (λ j h q. absurd (none j h q)) in
          let b = S.bottom no_pair (omega arith) (λ j h q. absurd (none j h q)) in
          rw (e, here-low, here-high) (omega arith, omega arith)
      | no d ↦ there x l d
    ];
  }

pub posted_one : (a : List ℕ) (row j i : ℕ) → row < rows → j < places → calendar_size ≤ length a
    → Posted a (added (widened a row j (j + 1)) row j i) (in_row row i (λ y. eqb y j))
posted_one a row j i hr hj size =
    let w = widened a row j (j + 1) in
    widened_posted a _ row j (j + 1) i _ hr size (span_one j hj)
    (filled_more w w (λ x y k. false) row j i hr hj (rw (widened_length a row j (j + 1)) size) (filled_none w _ (λ x y k l m. refl)))
