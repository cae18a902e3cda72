-- An answer taken out of the number that has all its bits is the one that stands there.
-- It stands on the laws of records.
use mathlib.Core.Path.{◌≡◌, sym, ap, ◌∙◌}
use mathlib.Core.List.{List, [], ◌∷◌}
use Prim.Native.Nat.{ℕ, ◌+◌, ◌/◌, ◌%◌, ◌^◌}
use native.Mathlib.Nat.{div-one}
use native.Mathlib.Omega.{arith}
use lib.Pow.{shr-shr}
use Rattle.bits.specs.Field.{field_of}
use Rattle.bits.specs.Layout.{numbers_in}
use Rattle.bits.proofs.Numbers.{numbers_in_lem}
use Rattle.answers.specs.Answers.{answer_widths, answer_bits, answer_at, answer_numbers}

shifted : (all i j n : ℕ) → i + j ≡ n → all / 2 ^ i / 2 ^ j ≡ all / 2 ^ n
shifted all i j n e = shr-shr all i j ∙ ap (λ (k : ℕ). all / 2 ^ k) e

-- the parts of the number as the code takes them: 14 bits stand behind the value
abbrev pub taken : ℕ → ℕ → List ℕ
taken w all =
    all / 2 ^ 14 / 2 ^ w / 2 ^ 3 % 2 ^ 7 ∷ all / 2 ^ 14 / 2 ^ w / 2 ^ 0 % 2 ^ 3 ∷ all / 2 ^ 14 / 2 ^ 0 % 2 ^ w ∷ all / 2 ^ 6 % 2 ^ 8 ∷ all / 2 ^ 1 % 2 ^ 5 ∷ all / 2 ^ 0 % 2 ^ 1 ∷ []

answer_parts : (w all : ℕ) → taken w all ≡ numbers_in (answer_widths w) all
answer_parts w all =
    let key : all / 2 ^ 14 / 2 ^ w ≡ all / 2 ^ (w + 14) = shifted all 14 w (w + 14) (omega arith) in
    let begin : all / 2 ^ (w + 14) / 2 ^ 3 ≡ all / 2 ^ (3 + (w + 14)) = shifted all (w + 14) 3 (3 + (w + 14)) (omega arith) in
    rw (key, begin, div-one (all / 2 ^ (w + 14)), div-one (all / 2 ^ 14))

pub answer_taken : (w : ℕ) (a : List ℕ) (i all : ℕ) → all ≡ field_of a (answer_at w a i) (answer_bits w) → taken w all ≡ answer_numbers w a i
answer_taken w a i all e =
    answer_parts w all
    ∙ ap (numbers_in (answer_widths w)) e
    ∙ sym (numbers_in_lem (answer_widths w) a (answer_at w a i))
