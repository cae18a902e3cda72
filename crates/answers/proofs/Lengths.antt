-- How many bytes an answer and the answers of a list of reads are, for every width.
-- It stands on the laws of packing.
use mathlib.Core.Path.{◌≡◌, refl, ◌∙◌, ap}
use mathlib.Core.List.{List, [], ◌∷◌}
use Prim.Native.Nat.{ℕ, ◌+◌, ◌*◌, ◌^◌, ◌≤◌, ◌<◌}
use native.Mathlib.Nat.{mul-le-mul, mul_assoc}
use native.Mathlib.Omega.{arith}
use lib.Dec.{lit≤}
use lib.ListN.{length, length-append}
use Rattle.bits.specs.Fill.{bytes_for}
use Rattle.bits.specs.Layout.{packed_bits}
use Rattle.bits.proofs.Filling.{fill_units}
use Rattle.bits.proofs.Packing.{packed_small, packed_length, in_length}
use Rattle.register.specs.Plan.{Plan, Read}
use Rattle.plan.specs.Form.{most_width}
use Rattle.register.specs.Reading.{Answer}
use Rattle.answers.specs.Answers.{answer_widths, answer_bits, answer_size, answer_with, answer_bytes, answers_for}

pub answer_length : (w : ℕ) (r : Read) (a : Answer) → length (answer_bytes w r a) ≡ answer_size w
unfolding answer_bytes
answer_length w r a =
    let bits = packed_bits (answer_widths w) (answer_with w r a) in
    in_length bits (packed_small (answer_widths w) (answer_with w r a)) ∙ ap bytes_for (packed_length (answer_widths w) (answer_with w r a) refl)

pub answers_length : (w : ℕ) (P : Plan) (rs : List Read) → length (answers_for w P rs) ≡ answer_size w * length rs
unfolding answers_for
answers_length w P [] = omega arith
answers_length w P (r ∷ rs) = rw (length-append, answer_length, answers_length w P rs) (omega arith)

-- an answer's bits fit its bytes, and these are few
pub answer_inside : (w : ℕ) → answer_bits w ≤ 8 * answer_size w
answer_inside w = let units = fill_units 8 (answer_bits w) (lit≤ tt) in omega arith

pub answer_few : (w : ℕ) → w ≤ most_width → answer_size w ≤ 6
answer_few w h = omega arith

-- the answers before one, counted in bits
pub bits_before : (size i : ℕ) → size ≤ 6 → i < 2 ^ 50 → 8 * size * i < 2 ^ 56
bits_before size i h l = let m = mul-le-mul {m₁ = i} {n₂ = 6} {m₂ = 2 ^ 50} h (omega arith) in rw (mul_assoc 8 size i) (omega arith)

-- and one more lie in the buffer
pub bits_inside : (size bits i n : ℕ) → bits ≤ 8 * size → size * i + size ≤ n → 8 * size * i + bits ≤ 8 * n
bits_inside size bits i n h l = rw (mul_assoc 8 size i) (omega arith)

-- the answers of as many reads as a plan can list are few bytes
pub answers_few : (w size m : ℕ) → w ≤ most_width → size ≡ answer_size w → m ≤ 255 → size * m ≤ 6 * 255
answers_few w size m h e l = mul-le-mul {n₁ = size} {m₁ = m} {n₂ = 6} {m₂ = 255} (rw e (answer_few w h)) l
