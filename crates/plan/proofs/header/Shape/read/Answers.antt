-- `header::Shape::read` meets its contract: the fields are parts of the number before the value and of the one behind it.
use mathlib.Core.Path.{◌≡◌, refl, ap, sym, ◌∙◌}
use mathlib.Core.List.{List}
use Prim.Native.Nat.{ℕ, ◌+◌, ◌/◌, ◌%◌, ◌^◌}
use native.Mathlib.Omega.{arith}
use Rattle.bits.specs.Field.{field_of}
use Rattle.bits.proofs.Laws.{field_inner}
use Rattle.plan.specs.Header.{header_of}
use Rattle.plan.proofs.Sizes.{narrow_value}
use Rattle.plan.proofs.header.Shape.read.Goals as goal

-- the fields as the code takes them
header-parts : (w : ℕ) (s : List ℕ) → let front = field_of s 0 28 in let back = field_of s (28 + w) 20 in header_of w s ≡ record {
  n = front / 2 ^ 23 % 2 ^ 5;
  f = front / 2 ^ 21 % 2 ^ 2;
  delta = front / 2 ^ 17 % 2 ^ 4;
  period = front / 2 ^ 11 % 2 ^ 6;
  readers = front / 2 ^ 8 % 2 ^ 3;
  ticks = front / 2 ^ 0 % 2 ^ 8;
  initial = field_of s 28 w;
  operations = back / 2 ^ 12 % 2 ^ 8;
  forgeries = back / 2 ^ 1 % 2 ^ 11;
  zero_bit = back / 2 ^ 0 % 2 ^ 1;
}
unfolding header_of
header-parts w s =
    let operations : field_of s (28 + w) 8 ≡ field_of s (28 + w) 20 / 2 ^ 12 % 2 ^ 8 = ap (λ (at : ℕ). field_of s at 8) (omega arith) ∙ field_inner s (28 + w) 0 8 12 in
    let zero_bit : field_of s (28 + w + 8 + 11) 1 ≡ field_of s (28 + w) 20 / 2 ^ 0 % 2 ^ 1 = ap (λ (at : ℕ). field_of s at 1) (omega arith) ∙ field_inner s (28 + w) 19 1 0 in
    rw (
      field_inner s 0 0 5 23,
      field_inner s 0 5 2 21,
      field_inner s 0 7 4 17,
      field_inner s 0 11 6 11,
      field_inner s 0 17 3 8,
      field_inner s 0 20 8 0,
      operations,
      field_inner s (28 + w) 8 11 1,
      zero_bit,
    )

pub overflow_cast-result-7 : goal.overflow_cast-result-7
overflow_cast-result-7 c = omega (arith, narrow_value _ _ (omega arith) c.field.ensures.1)

pub returns : goal.returns
returns c = let a = c.args in (
  rw (
    c.part-9.ensures.0,
    c.part-8.ensures.0,
    c.part-7.ensures.0,
    c.field.ensures.0,
    c.part-6.ensures.0,
    c.part-5.ensures.0,
    c.part-4.ensures.0,
    c.part-3.ensures.0,
    c.part-2.ensures.0,
    c.part.ensures.0,
    c.field-back.ensures.0,
    c.field-front.ensures.0,
    c.from-value.ensures,
  )
      (sym (header-parts a.width a.plan.now)),
  refl,
)
