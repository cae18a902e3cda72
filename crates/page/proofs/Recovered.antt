-- From a page alone its answers are read back, in every form.
-- It stands on the laws of lines, of digits and of packing.
use mathlib.Core.Path.{◌≡◌, refl, sym, ap, ◌∙◌}
use mathlib.Core.Bool.{Bool, true, false}
use mathlib.Core.List.{List, [], ◌∷◌, map}
use Prim.Native.Nat.{ℕ, zero, suc, ◌+◌, ◌*◌, ◌-◌, ◌/◌, ◌≤◌, ◌<◌}
use native.Mathlib.{Nat.mul-zero, Nat.mul-suc, Nat.mul_assoc, Nat.le_refl, Nat.le_of_eq, Decide.dec_lt, Omega.arith}
use lib.Dec.{lit<, lit≤}
use lib.ListN.{length, take, drop, length-drop, take-append-drop, get_or-eq_default}
use lib.Seq.{take_at, drop_at, take-add, take_all, length-take-le, get_or-take, get_or-drop}
use Rattle.decimal.{specs.Decimal.read_from, specs.Aligned.right, proofs.Laws.decimal_spells, proofs.Aligning.right_length, proofs.Aligning.read_word}
use Rattle.bits.specs.{Field.field_of, Field.Bytes, Fill.fill, Fill.bytes_for, Layout.total, Layout.numbers_at, Layout.packed_bits, Layout.in_bytes}
use Rattle.bits.proofs.{Laws.field_zero, Filling.fill_units, Joined.numbers_left, Numbers.numbers_part, Records.record_inside, Packing.packed_numbers, Packing.in_back}
use Rattle.register.specs.Plan.{value_of, number_of}
use Rattle.plan.{specs.Form.form_one, specs.Form.form_two, specs.Form.is_form, specs.Form.width_of, specs.Form.most_width, specs.Packed.plan_of, proofs.Forms.by_form, proofs.Forms.form_narrow}
use Rattle.answers.specs.Answers.{answer_widths, answer_bits, answer_size, answer_numbers, begin_in, reader_in, pair_in, count_in, zero_in}
use Rattle.results.specs.Judge.{read_of}
use Rattle.results.proofs.Fits.{IsTo}
use Rattle.page.specs.{Page.line_size, Page.cells, Page.in_cells, Page.mark_of, Page.rule, Page.row_of, Page.is_marked, Page.read_line, Page.page_of, Words.fit_cells, Recovered.cell_numbers, Recovered.answer_on, Recovered.answers_from, Recovered.form_on, Recovered.answers_on}
use Rattle.page.proofs.{Rows.RowFits, Rows.row_is, Rows.row_fits, Lines.value_in, Lines.number_in, Lines.rule_line, Lines.read_fits, Lines.page_length, Lines.page_line}

-- words that fit their cells are read back as numbers
pub cells_read : (cs : List ℕ) (words : List (List ℕ)) → length words ≡ length cs → fit_cells cs words → cell_numbers cs (in_cells cs words) ≡ map (read_from 0) words
unfolding cell_numbers in_cells
cells_read [] [] e f = refl
cells_read [] (word ∷ words) e f = absurd (omega arith)
cells_read (c ∷ cs) [] e f = absurd (omega arith)
cells_read (c ∷ cs) (word ∷ words) e f =
    let size = right_length c word f.0 in
    rw (take_at (right c word) (in_cells cs words) c size, drop_at (right c word) (in_cells cs words) c size, read_word c word, cells_read cs words (omega arith) f.1)

mark_read : (marked : Bool) → read_from 0 (mark_of marked) ≡ 0
unfolding read_from
mark_read true = refl
mark_read false = refl

module _ {w begin reader end value number count : ℕ} (F : RowFits w begin reader end value number count) (marked : Bool) where
  -- the numbers of a row; its mark is read as 0
  pub row_read : cell_numbers cells (row_of w (begin ∷ reader ∷ end ∷ value ∷ number ∷ count ∷ []) marked) ≡ begin ∷ reader ∷ end ∷ value ∷ number ∷ count ∷ 0 ∷ []
  row_read =
      ap (cell_numbers cells) (sym (row_is F marked))
      ∙ cells_read cells _ refl (row_fits F marked)
      ∙ rw ((decimal_spells begin).reads, (decimal_spells reader).reads, (decimal_spells end).reads, (decimal_spells value).reads, (decimal_spells number).reads, (decimal_spells count).reads, mark_read marked)

  pub row_answer : answer_on w (row_of w (begin ∷ reader ∷ end ∷ value ∷ number ∷ count ∷ []) marked)
      ≡ in_bytes (packed_bits (answer_widths w) (begin ∷ reader ∷ value ∷ number ∷ count ∷ 0 ∷ []))
  unfolding answer_on
  row_answer = rw row_read

-- A record of whole bytes, from byte k of a byte string on: read and packed again it is those bytes.
module _ (vs a : List ℕ) (k : ℕ) (bytes : Bytes a) (whole : fill 8 (total vs) ≡ 0) (inside : k + bytes_for (total vs) ≤ length a) where
  abbrev size : ℕ
  size = bytes_for (total vs)

  abbrev part : List ℕ
  part = take size (drop k a)

  part_length : length part ≡ size
  part_length = length-take-le size (drop k a) (rw length-drop (omega arith))

  part_bytes : Bytes part
  part_bytes i = elim (dec_lt i size) [
    | yes l ↦ rw (get_or-take size (drop k a) i 0 l, get_or-drop k a i 0) (bytes (k + i))
    | no l ↦ rw (get_or-eq_default part 0 {n = i} (rw part_length (omega arith))) (lit< tt)
  ]

  part_numbers : numbers_at vs a (8 * k) ≡ numbers_at vs part 0
  part_numbers =
      let e : 8 * k ≡ 8 * k + 0 = omega arith in
      ap (numbers_at vs a) e
      ∙ sym (numbers_part vs a k 0)
      ∙ ap (λ (b : List ℕ). numbers_at vs b 0) (sym (take-append-drop size (drop k a)))
      ∙ numbers_left vs part (drop size (drop k a)) 0 (omega (arith, part_length, fill_units 8 (total vs) (lit≤ tt)))

  pub record_back : in_bytes (packed_bits vs (numbers_at vs a (8 * k))) ≡ take (bytes_for (total vs)) (drop k a)
  record_back =
      ap (λ (xs : List ℕ). in_bytes (packed_bits vs xs)) part_numbers
      ∙ ap in_bytes (packed_numbers vs part 0)
      ∙ in_back part (total vs) part_bytes part_length (ap (field_of part (total vs)) whole ∙ field_zero part (total vs))

-- The answers to the reads of a plan, at every width that fills whole bytes.
module _ (w : ℕ) (s a : List ℕ) (narrow : w ≤ most_width) (whole : fill 8 (answer_bits w) ≡ 0) (bytes : Bytes a)
    (long : length a ≡ answer_size w * length (plan_of w s).reads) (to : (i : ℕ) → i < length (plan_of w s).reads → IsTo w s a i) where
  -- the line of a read has the fields of its answer
  numbers-are : (i : ℕ) → i < length (plan_of w s).reads
      → (read_of (plan_of w s) i).begun ∷ (read_of (plan_of w s) i).reader ∷ value_of w (pair_in w a i) ∷ number_of w (pair_in w a i) ∷ count_in w a i ∷ 0 ∷ []
      ≡ answer_numbers w a i
  unfolding begin_in reader_in count_in zero_in
  numbers-are i l = let t = to i l in rw (← t.begin, ← t.reader, value_in w a i, number_in w a i, t.zero_bit)

  pub answer_back : (i : ℕ) → i < length (plan_of w s).reads → answer_on w (read_line w s a i) ≡ take (answer_size w) (drop (answer_size w * i) a)
  unfolding read_line
  answer_back i l =
      row_answer (read_fits w s a narrow i) (is_marked (plan_of w s) (read_of (plan_of w s) i))
      ∙ ap (λ (xs : List ℕ). in_bytes (packed_bits (answer_widths w) xs)) (numbers-are i l ∙ ap (numbers_at (answer_widths w) a) (mul_assoc 8 (answer_size w) i))
      ∙ record_back (answer_widths w) a (answer_size w * i) bytes whole (rw long (record_inside (answer_size w) i (length (plan_of w s).reads) l))

  first-answers : (i : ℕ) → i ≤ length (plan_of w s).reads → answers_from w (page_of w s a) i ≡ take (answer_size w * i) a
  unfolding answers_from
  first-answers zero l = rw (mul-zero (answer_size w))
  first-answers (suc i) l =
      rw (mul-suc (answer_size w) i, take-add (answer_size w * i) (answer_size w) a, page_line w s a narrow i l, answer_back i l, first-answers i (omega arith))

  pub answers_back : answers_from w (page_of w s a) (length (plan_of w s).reads) ≡ a
  answers_back = first-answers (length (plan_of w s).reads) (le_refl (length (plan_of w s).reads)) ∙ take_all _ a (le_of_eq long)

-- The form is read back.
module _ (s a : List ℕ) where
  form-one : form_on (page_of (width_of form_one) s a) ≡ form_one
  unfolding form_on rule in_cells right
  form-one = rw (rule_line (width_of form_one) s a)

  form_two_lem : form_on (page_of (width_of form_two) s a) ≡ form_two
  unfolding form_on rule in_cells right
  form_two_lem = rw (rule_line (width_of form_two) s a)

  pub form_back : (form : ℕ) → is_form form ≡ true → form_on (page_of (width_of form) s a) ≡ form
  form_back = by_form (λ form. form_on (page_of (width_of form) s a) ≡ form) form-one form_two_lem

-- in both forms an answer fills whole bytes
form_whole : (form : ℕ) → is_form form ≡ true → fill 8 (answer_bits (width_of form)) ≡ 0
form_whole = by_form (λ form. fill 8 (answer_bits (width_of form)) ≡ 0) refl refl

-- 'From the sheet alone each answer can be recovered.'
pub recovered : (form : ℕ) → is_form form ≡ true → (s a : List ℕ) → Bytes a → length a ≡ answer_size (width_of form) * length (plan_of (width_of form) s).reads
    → ((i : ℕ) → i < length (plan_of (width_of form) s).reads → IsTo (width_of form) s a i) → answers_on (page_of (width_of form) s a) ≡ a
unfolding answers_on
recovered form known s a bytes long to =
    let w : ℕ = width_of form in
    let m : ℕ = length (plan_of w s).reads in
    let lines : length (page_of w s a) / line_size - 3 ≡ m = rw (page_length w s a (form_narrow form)) (omega arith) in
    rw (form_back s a form known, lines) (answers_back w s a (form_narrow form) (form_whole form known) bytes long to)
