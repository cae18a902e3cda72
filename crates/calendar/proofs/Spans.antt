-- For callers: every operation keeps what arrives inside the spans, and so clearing a span clears its row; the rows by tick and receiver.
use mathlib.Core.Path.{◌≡◌, sym, ap, ◌∙◌}
use mathlib.Core.Bool.{not, ◌&&◌, and_comm, false≢true}
use mathlib.Core.List.{List}
use Prim.Native.Nat.{ℕ, ◌+◌, ◌/◌, ◌%◌, ◌≤◌, ◌<◌}
use native.Mathlib.Omega.{arith}
use native.Mathlib.Decide.{ℕ_discrete}
use lib.Dec.{eqb}
use borrow.Author.Tests.{lt-ltb, le-leb, eq-eqb, ne_eqb}
use Rattle.register.proofs.Logic.{and_both}
use Rattle.limits.specs.Limits.{places}
use Rattle.calendar.specs.Layout.{rows, receivers, row_of, low_of, high_of, sender}
use Rattle.calendar.specs.View.{Inside, covers, Spanned, Posted, Cleared, Empty}
use Rattle.calendar.specs.Posts.{Messages}
use Rattle.calendar.proofs.Laws.{or_either, never}

-- ---- the spans

pub posted_spanned : (a r : List ℕ) (f : Messages) → Posted a r f → Spanned a → Spanned r
posted_spanned a r f P S = record {
  top = λ x l. P.top x places l (S.top x l) (λ j k n q. n);
  within = λ x j k l n q. or_either (Inside r x j) (sender a x j k) (f x j k) (sym (P.cells x j k l n) ∙ q)
      (λ p. P.wider x j l (S.within x j k l n p)) (λ p. P.grown x j k l n p);
}

pub empty_spanned : (r : List ℕ) → Empty r → Spanned r
empty_spanned r E = record {
  top = λ x l. omega (arith, E.high x l);
  within = λ x j k l n q. absurd (false≢true (sym (E.cells x j k l n) ∙ q));
}

module _ (a r : List ℕ) (row : ℕ) (C : Cleared a r row) (S : Spanned a) where
  -- nothing arrives in a row that is cleared, and the other rows stay
  pub cleared_cells : (x j k : ℕ) → x < rows → j < places → sender r x j k ≡ not (eqb x row) && sender a x j k
  cleared_cells x j k l n = C.cells x j k l n ∙ elim (ℕ_discrete x row) [
    | no d ↦ rw (ne_eqb x row d)
    | yes e ↦ rw (eq-eqb x row e, and_comm (not (covers a row j)) (sender a x j k))
        (never (sender a x j k) _ (λ q. let i = rw e at (S.within x j k l n q) in rw (le-leb (low_of a row) j i.0, lt-ltb j (high_of a row) i.1)))
  ]

  pub cleared_spanned : Spanned r
  cleared_spanned = record {
    top = λ x l. elim (ℕ_discrete x row) [ yes e ↦ rw (e, C.high_here) (omega arith) | no d ↦ rw (C.high x l d) (S.top x l) ];
    within = λ x j k l n q.
        let b = and_both (not (eqb x row)) (sender a x j k) (sym (cleared_cells x j k l n) ∙ q) in
        elim (ℕ_discrete x row) [
          | yes e ↦ absurd (false≢true (rw (eq-eqb x row e) at b.0))
          | no d ↦ rw (C.low x l d, C.high x l d) (S.within x j k l n b.1)
        ];
  }

-- ---- by tick and receiver

pub row_slot : (t b : ℕ) → b < receivers → row_of t b / receivers ≡ t % 16
row_slot t b h = omega arith

pub row_receiver : (t b : ℕ) → b < receivers → row_of t b % receivers ≡ b
row_receiver t b h = omega arith

-- of 16 ticks in a row each has its own rows
pub own_rows : (t u v : ℕ) → t ≤ u → u < t + 16 → t ≤ v → v < t + 16 → eqb (u % 16) (v % 16) ≡ eqb u v
own_rows t u v a b c d = elim (ℕ_discrete u v) [
  | yes e ↦ rw (eq-eqb u v e, eq-eqb (u % 16) (v % 16) (ap (λ (x : ℕ). x % 16) e))
  | no e ↦ rw (ne_eqb u v e, ne_eqb (u % 16) (v % 16) (λ q. e (omega arith)))
]
