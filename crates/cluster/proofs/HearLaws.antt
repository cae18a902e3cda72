-- The readers note what arrives one after the other, and their rows of the calendar are emptied. It stands on the calendar's laws of clearing.
use mathlib.Core.{Path.◌≡◌, Path.refl, Path.sym, Path.◌∙◌, List.List}
use mathlib.Core.Bool.{Bool, not, ◌&&◌, ◌||◌, and-false, and-true, or-false}
use mathlib.Core.Logic.{◌⊎◌, inl, inr}
use Prim.Native.Nat.{ℕ, ◌+◌, ◌/◌, ◌%◌, ◌≤◌, ◌<◌}
use native.Mathlib.{Omega.arith, Decide.ℕ_discrete}
use lib.{Dec.eqb, Dec.leb, Dec.ltb, ListN.length, ListN.get_or}
use borrow.Author.Tests.{lt-ltb, le-ltb}
use Rattle.limits.specs.Limits.{most_servers, most_readers, places}
use Rattle.calendar.specs.Layout.{receivers, slots, rows, row_of, high_of, sender}
use Rattle.calendar.specs.View.{SamePast, Spanned, Cleared}
use Rattle.calendar.proofs.Clearing.{no_number, row_more}
use Rattle.tallies.specs.Tallies.{named_at, of_reader, holds, Joined}
use Rattle.cluster.specs.Tick.{Heard}
use Rattle.cluster.proofs.RowLaws.{past_same, past_trans, Emptied, emptied_now, emptied_before, empty_row}

-- the rows of the first n readers in tick t
unfoldable pub taken : ℕ → ℕ → ℕ → Bool
taken t n y = eqb (y / receivers) (t % slots) && (leb most_servers (y % receivers) && ltb (y % receivers) (most_servers + n))

-- the first n readers have noted what arrives, and their rows are empty
pub record Hearing (work after sets then : List ℕ) (t n : ℕ) : Type 0 where
  pub size : length then ≡ length sets
  pub named : (x j i : ℕ) → x < n → j < places → holds then (of_reader x + j) i ≡ (holds sets (of_reader x + j) i || sender work (row_of t (most_servers + x)) j i)
  pub others : (c : ℕ) → (c < named_at) ⊎ (of_reader n ≤ c) → get_or then c 0 ≡ get_or sets c 0
  pub rest : SamePast work after
  pub spans : Spanned after
  pub cells : (y j i : ℕ) → y < rows → j < places → sender after y j i ≡ not (taken t n y) && sender work y j i

pub hearing_none : (work sets : List ℕ) (t : ℕ) → Spanned work → Hearing work work sets sets t 0
unfolding taken
hearing_none work sets t S = record {
  size = refl;
  named = λ x j i l h. absurd (omega arith);
  others = λ c o. refl;
  rest = past_same work;
  spans = S;
  cells = λ y j i l h. rw (no_number 16 (y % receivers), and-false (eqb (y / receivers) (t % 16)));
}

module _ (work now sets then : List ℕ) (t x : ℕ) (l : x < 4) (H : Hearing work now sets then t x) where
  -- its row is as it was
  still : (j i : ℕ) → j < places → sender now (row_of t (16 + x)) j i ≡ sender work (row_of t (16 + x)) j i
  unfolding taken
  still j i h =
      let e : row_of t (16 + x) % receivers ≡ 16 + x = omega arith in
      H.cells (row_of t (16 + x)) j i (omega arith) h
      ∙ rw (e, le-ltb (16 + x) (16 + x) (omega arith), and-false (leb 16 (16 + x)), and-false (eqb (row_of t (16 + x) / receivers) (t % 16)))

  module _ (z after : List ℕ) (J : Joined then z (of_reader x) (sender now (row_of t (16 + x)))) (E : Emptied now after (row_of t (16 + x))) where
    hearing-on : Hearing work after sets z t (x + 1)
    unfolding taken
    hearing-on = record {
      size = J.size ∙ H.size;
      named = λ y j i h d. elim (ℕ_discrete y x) [
        | yes e ↦ rw e (J.each j i d ∙ rw (H.others (of_reader x + j) (inr (omega arith)), still j i d))
        | no q ↦ rw (J.rest (of_reader y + j) (inl (omega arith))) (H.named y j i (omega arith) d)
      ];
      others = λ c o. elim o [
        | inl a ↦ J.rest c (inl (omega arith)) ∙ H.others c (inl a)
        | inr a ↦ J.rest c (inr (omega arith)) ∙ H.others c (inr (omega arith))
      ];
      rest = past_trans work now after H.rest E.rest;
      spans = E.spans;
      cells = λ y j i h d.
          let e : 16 + (x + 1) ≡ 16 + x + 1 = omega arith in
          E.cells y j i h d ∙ rw (H.cells y j i h d, e) (row_more t 16 (16 + x) y (sender work y j i) h (omega arith) (omega arith));
    }

  -- something reaches it
  pub hearing_more : (z after : List ℕ) → Joined then z (of_reader x) (sender now (row_of t (16 + x))) → Cleared now after (row_of t (16 + x)) → Hearing work after sets z t (x + 1)
  hearing_more z after J C = hearing-on z after J (emptied_now now (row_of t (16 + x)) H.spans after C)

  -- nothing does: the row has no span
  pub hearing_same : high_of now (row_of t (16 + x)) ≡ 0 → Hearing work now sets then t (x + 1)
  hearing_same e =
      hearing-on then now (record { size = refl; each = λ j i h. rw (empty_row now (row_of t (16 + x)) H.spans (omega arith) e j i h) (sym (or-false _)); rest = λ c o. refl })
      (emptied_before now (row_of t (16 + x)) H.spans (omega arith) e)

pub hearing_all : (work after sets then : List ℕ) (t : ℕ) → Hearing work after sets then t most_readers → Heard work after sets then t
unfolding taken
hearing_all work after sets then t H = record {
  size = H.size;
  named = H.named;
  votes = λ c l. H.others c (inl l);
  rest = H.rest;
  spans = H.spans;
  cells = λ y j i h d. H.cells y j i h d ∙ rw (lt-ltb (y % receivers) (16 + 4) (omega arith), and-true (leb 16 (y % receivers)));
}
