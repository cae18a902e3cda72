-- The line of a read: its digits at the right end of their cells are right-aligned in their columns too, and every line has 80 characters.
-- It stands on the laws of numbers in columns.
use mathlib.Core.Path.{◌≡◌, refl, sym, ap, ◌∙◌}
use mathlib.Core.Bool.{Bool, true, false, cond}
use mathlib.Core.List.{List, [], ◌∷◌, map}
use Prim.Native.Nat.{ℕ, ◌^◌, ◌≤◌, ◌<◌}
use native.Mathlib.Nat.{lt_of_lt_of_le}
use native.Mathlib.Omega.{arith}
use lib.Dec.{leb, lit≤}
use lib.Pow.{pow_mono}
use lib.ListN.{length, take, replicate, length-append, length-replicate}
use borrow.Author.Tests.{leb-true}
use Rattle.decimal.specs.Decimal.{decimal_of}
use Rattle.decimal.specs.Aligned.{right}
use Rattle.decimal.proofs.Aligning.{right_length, right_right, digits_fit}
use Rattle.bits.specs.Layout.{total}
use Rattle.plan.specs.Form.{form_one, most_width, width_of}
use Rattle.page.specs.Page.{line_columns, value_columns, cells, columns, in_cells, heading, dash, rule, aligned_in, mark_of, row_of}
use Rattle.page.specs.Words.{fit_cells}

-- words that fit fill their cells
pub cells_length : (cs : List ℕ) (words : List (List ℕ)) → length words ≡ length cs → fit_cells cs words → length (in_cells cs words) ≡ total cs
unfolding in_cells
cells_length [] words e f = refl
cells_length (c ∷ cs) [] e f = absurd (omega arith)
cells_length (c ∷ cs) (word ∷ words) e f =
    rw (length-append (right c word) (in_cells cs words), right_length c word f.0, cells_length cs words (omega arith) f.1)

pub heading_length : length heading ≡ line_columns
unfolding heading in_cells right
heading_length = refl

-- the columns of a value fit its cell, and a dash stands for each
by_columns : (Q : ℕ → Type 0) → Q 5 → Q 8 → (w : ℕ) → Q (value_columns w)
by_columns Q five eight w = go (leb w (width_of form_one))
  where
    go : (t : Bool) → Q (cond t 5 8)
    go true = five
    go false = eight

pub few_columns : (w : ℕ) → value_columns w ≤ 8
few_columns = by_columns (λ k. k ≤ 8) (lit≤ tt) (lit≤ tt)

pub dashes_are : (w : ℕ) → take (value_columns w) (replicate 8 dash) ≡ replicate (value_columns w) dash
dashes_are = by_columns (λ k. take k (replicate 8 dash) ≡ replicate k dash) refl refl

pub rule_length : (w : ℕ) → length (rule w) ≡ line_columns
unfolding rule
rule_length w =
    cells_length cells (map (λ k. replicate k dash) (columns w)) refl (omega (arith, length-replicate {A = ℕ} (value_columns w) dash, few_columns w))

-- a value has at most as many digits as its columns
pub value_digits : (w v : ℕ) → w ≤ most_width → v < 2 ^ w → length (decimal_of v) ≤ value_columns w
value_digits w v h l = go (leb w (width_of form_one)) refl
  where
    go : (t : Bool) → leb w (width_of form_one) ≡ t → length (decimal_of v) ≤ cond t 5 8
    go true e = digits_fit 5 v (omega arith) (lt_of_lt_of_le (lt_of_lt_of_le l (pow_mono (leb-true w (width_of form_one) e))) (lit≤ tt))
    go false e = digits_fit 8 v (omega arith) (lt_of_lt_of_le (lt_of_lt_of_le l (pow_mono h)) (lit≤ tt))

mark_length : (marked : Bool) → length (mark_of marked) ≡ 1
mark_length true = refl
mark_length false = refl

-- what the numbers of a read's line have to be
pub record RowFits (w begin reader end value number count : ℕ) : Type 0 where
  pub narrow : w ≤ most_width
  pub begin_hi : begin < 1000
  pub reader_hi : reader < 10
  pub end_hi : end < 1000
  pub value_hi : value < 2 ^ w
  pub number_hi : number < 1000
  pub count_hi : count < 100

module _ {w begin reader end value number count : ℕ} (F : RowFits w begin reader end value number count) (marked : Bool) where
  pub begin_digits : length (decimal_of begin) ≤ 3
  begin_digits = digits_fit 3 begin (omega arith) F.begin_hi

  pub reader_digits : length (decimal_of reader) ≤ 1
  reader_digits = digits_fit 1 reader (omega arith) F.reader_hi

  pub end_digits : length (decimal_of end) ≤ 3
  end_digits = digits_fit 3 end (omega arith) F.end_hi

  pub number_digits : length (decimal_of number) ≤ 3
  number_digits = digits_fit 3 number (omega arith) F.number_hi

  pub count_digits : length (decimal_of count) ≤ 2
  count_digits = digits_fit 2 count (omega arith) F.count_hi

  abbrev digits : List (List ℕ)
  digits = decimal_of begin ∷ decimal_of reader ∷ decimal_of end ∷ decimal_of value ∷ decimal_of number ∷ decimal_of count ∷ mark_of marked ∷ []

  -- the digits in their cells are the numbers in their columns
  pub row_is : in_cells cells digits ≡ row_of w (begin ∷ reader ∷ end ∷ value ∷ number ∷ count ∷ []) marked
  unfolding row_of aligned_in in_cells
  row_is =
      rw (
        right_right 7 3 (decimal_of begin) begin_digits (omega arith),
        right_right 12 1 (decimal_of reader) reader_digits (omega arith),
        right_right 9 3 (decimal_of end) end_digits (omega arith),
        right_right 14 (value_columns w) (decimal_of value) (value_digits w value F.narrow F.value_hi) (omega (arith, few_columns w)),
        right_right 12 3 (decimal_of number) number_digits (omega arith),
        right_right 12 2 (decimal_of count) count_digits (omega arith),
      )

  pub row_fits : fit_cells cells digits
  row_fits =
      let value-fits = value_digits w value F.narrow F.value_hi in
      omega (arith, few_columns w, begin_digits, reader_digits, end_digits, number_digits, count_digits, mark_length marked)

  pub row_length : length (row_of w (begin ∷ reader ∷ end ∷ value ∷ number ∷ count ∷ []) marked) ≡ line_columns
  row_length = ap length (sym row_is) ∙ cells_length cells digits refl row_fits
