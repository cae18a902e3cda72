-- That the contracts suffice: what is posted to an empty calendar arrives, and nothing else does; when it is taken, the calendar is empty again.
use mathlib.Core.Path.{◌≡◌, ◌∙◌}
use mathlib.Core.Bool.{Bool, not}
use mathlib.Core.List.{List}
use Prim.Native.Nat.{ℕ, ◌<◌}
use native.Mathlib.Decide.{ℕ_discrete}
use lib.Dec.{eqb}
use borrow.Author.Tests.{ne_eqb, not-true}
use Rattle.calendar.specs.Layout.{rows, sender}
use Rattle.limits.specs.Limits.{places}
use Rattle.calendar.specs.View.{Posted, Cleared, Empty, Spanned}
use Rattle.calendar.specs.Posts.{in_row}
use Rattle.calendar.proofs.Laws.{never}
use Rattle.calendar.proofs.Spans.{posted_spanned, empty_spanned, cleared_cells}

module _ (a b : List ℕ) (row i : ℕ) (P : ℕ → Bool) (E : Empty a) (A : Posted a b (in_row row i P)) where
  pub posted_arrives : (x j k : ℕ) → x < rows → j < places → sender b x j k ≡ in_row row i P x j k
  posted_arrives x j k l n = A.cells x j k l n ∙ rw (E.cells x j k l n)

  pub posted_inside : Spanned b
  posted_inside = posted_spanned a b (in_row row i P) A (empty_spanned a E)

  pub taken_empty : (c : List ℕ) → Cleared b c row → Empty c
  taken_empty c C = record {
    low = λ x l. elim (ℕ_discrete x row) [ yes e ↦ rw e C.low_here | no d ↦ C.low x l d ∙ ((A.still x l (λ j k n. rw (ne_eqb x row d))).0 ∙ E.low x l) ];
    high = λ x l. elim (ℕ_discrete x row) [ yes e ↦ rw e C.high_here | no d ↦ C.high x l d ∙ ((A.still x l (λ j k n. rw (ne_eqb x row d))).1 ∙ E.high x l) ];
    cells = λ x j k l n. cleared_cells b c row C posted_inside x j k l n ∙ rw (posted_arrives x j k l n)
        (never (not (eqb x row)) _ (λ e. rw (not-true (eqb x row) e)));
  }
