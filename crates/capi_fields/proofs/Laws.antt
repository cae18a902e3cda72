-- The fields before the zero bit; the answer of the part that starts with it is the answer among the others.
-- It stands on the laws of records.
use mathlib.Core.Path.{◌≡◌, sym, ap, ◌∙◌}
use mathlib.Core.Bool.{true, false}
use mathlib.Core.List.{List}
use Prim.Native.Nat.{ℕ, suc, ◌+◌, ◌*◌, ◌-◌, ◌/◌, ◌≤◌, ◌<◌}
use native.Mathlib.Nat.{mul_assoc, le-div_iff_mul-le}
use native.Mathlib.Omega.{arith}
use lib.ListN.{length, take, drop, get_or, length-take, length-drop, get_or-eq_default}
use borrow.Author.Tests.{lt-ltb, le-ltb, lt-leb, le-leb}
use Rattle.bits.specs.Fill.{bytes_for}
use Rattle.bits.specs.Layout.{numbers_at}
use Rattle.bits.proofs.Numbers.{numbers_part}
use Rattle.register.proofs.Lists.{part_from}
use Rattle.plan.specs.Form.{is_form, width_of}
use Rattle.plan.specs.Widths.{header_widths}
use Rattle.plan.specs.Header.{header_bits}
use Rattle.answers.specs.Answers.{answer_size, answer_widths, answer_numbers}
use Rattle.capi_fields.specs.Fields.{answer_fields, answer_field, header_fields, header_field}

-- no such field
pub no_field : (n : ℕ) (l : List ℕ) (x : ℕ) → n ≤ x → 0 ≡ get_or (take n l) x 0
no_field n l x h =
    let few : length (take n l) ≤ x = omega (arith, length-take n l) in
    sym (get_or-eq_default (take n l) 0 few)

pub answer_of_part : (w : ℕ) (a : List ℕ) (i : ℕ) → answer_numbers w (take (length a - answer_size w * i) (drop (answer_size w * i) a)) 0 ≡ answer_numbers w a i
answer_of_part w a i =
    let from = answer_size w * i in
    let at : 8 * from + 8 * answer_size w * 0 ≡ 8 * answer_size w * i = places (answer_size w) i in
    ap (λ (b : List ℕ). answer_numbers w b 0) (part_from from a)
    ∙ numbers_part (answer_widths w) a from (8 * answer_size w * 0)
    ∙ rw at
  where
    places : (size i : ℕ) → 8 * (size * i) + 8 * size * 0 ≡ 8 * size * i
    places size i = rw (mul_assoc 8 size i) (omega arith)

-- a whole answer i lies in the buffer
pub answer_there : (size i n : ℕ) → 1 ≤ size → i < n / size → size * i + size ≤ n
answer_there size i n h l = let m = (le-div_iff_mul-le {x = suc i} {y = n} h).0 l in omega (arith, m)

-- and in the part that starts with it
pub part_there : (size i : ℕ) (a : List ℕ) → size * i + size ≤ length a → size * 0 + size ≤ length (take (length a - size * i) (drop (size * i) a))
part_there size i a h = rw (part_from (size * i) a, length-drop (size * i) a) (omega arith)

-- What the code finds, in a form.
module _ (form : ℕ) where
  module _ (a : List ℕ) (i field : ℕ) where
    pub answer_unknown : is_form form ≡ false → 0 ≡ answer_field form a i field
    unfolding answer_field
    answer_unknown e = rw e

    module _ (w size : ℕ) (known : is_form form ≡ true) (e : w ≡ width_of form) (f : size ≡ answer_size w) where
      pub answer_none : length a / size ≤ i → 0 ≡ answer_field form a i field
      unfolding answer_field
      answer_none h = rw (known, ← e, ← f, le-ltb i (length a / size) h)

      pub answer_field_lem : (r : ℕ) → i < length a / size → r ≡ get_or (take 5 (answer_numbers w a i)) field 0 → r ≡ answer_field form a i field
      unfolding answer_field answer_fields
      answer_field_lem r h q = rw (known, ← e, ← f, lt-ltb i (length a / size) h) (q ∙ ap (λ (v : ℕ). get_or (take 5 (answer_numbers v a i)) field 0) e)

  module _ (s : List ℕ) (field : ℕ) where
    pub header_unknown : is_form form ≡ false → 0 ≡ header_field form s field
    unfolding header_field
    header_unknown e = rw e

    module _ (w size : ℕ) (known : is_form form ≡ true) (e : w ≡ width_of form) (f : size ≡ bytes_for (header_bits w)) where
      pub header_none : length s < size → 0 ≡ header_field form s field
      unfolding header_field
      header_none h = rw (known, ← e, ← f, lt-leb size (length s) h)

      pub header_field_lem : (r : ℕ) → size ≤ length s → r ≡ get_or (take 9 (numbers_at (header_widths w) s 0)) field 0 → r ≡ header_field form s field
      unfolding header_field header_fields
      header_field_lem r h q = rw (known, ← e, ← f, le-leb size (length s) h) (q ∙ ap (λ (v : ℕ). get_or (take 9 (numbers_at (header_widths v) s 0)) field 0) e)
