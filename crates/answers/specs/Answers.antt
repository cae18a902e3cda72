-- The answers' bytes (document 01, 'The plan, packed': 'An answer has 40 bits').
use Rattle.std.specs.Prelude.{List, [], ◌∷◌, ◌++◌, ℕ, ◌*◌, get_or}
use Rattle.bits.specs.Fill.{bytes_for}
use Rattle.bits.specs.Layout.{total, numbers_at, packed_bits, in_bytes}
use Rattle.register.specs.Plan.{Plan, Read, stamped, value_of, number_of}
use Rattle.register.specs.Reading.{Answer, answer_of}
use Rattle.plan.specs.Packed.{plan_of}

-- 'begin 7, screen 3, cue 16, number 8, count 5, one zero bit'
abbrev pub answer_widths : ℕ → List ℕ
answer_widths w = 7 ∷ 3 ∷ w ∷ 8 ∷ 5 ∷ 1 ∷ []

abbrev pub answer_bits : ℕ → ℕ
answer_bits w = total (answer_widths w)

-- 5 in form one, 6 in form two
abbrev pub answer_size : ℕ → ℕ
answer_size w = bytes_for (answer_bits w)

-- the answer of a read: its numbers in packed order, and its bytes
abbrev pub answer_with : ℕ → Read → Answer → List ℕ
answer_with w r a = r.begun ∷ r.reader ∷ value_of w a.pair ∷ number_of w a.pair ∷ a.count ∷ 0 ∷ []

unfoldable pub answer_bytes : ℕ → Read → Answer → List ℕ
answer_bytes w r a = in_bytes (packed_bits (answer_widths w) (answer_with w r a))

-- 'Answers stand in order of begin, then screen; each answer is written at its own five bytes' (Ten: 6 in form two). Operations stand in that order.
unfoldable pub answers_for : ℕ → Plan → List Read → List ℕ
answers_for w P [] = []
answers_for w P (r ∷ rs) = answer_bytes w r (answer_of P r) ++ answers_for w P rs

-- all answers of a packed plan: what Play writes
unfoldable pub answers_of : ℕ → List ℕ → List ℕ
answers_of w s = let P : Plan = plan_of w s in answers_for w P P.reads

-- The fields of answer i among answer bytes.
module _ (w : ℕ) (a : List ℕ) (i : ℕ) where
  abbrev pub answer_at : ℕ
  answer_at = 8 * answer_size w * i

  -- in packed order
  abbrev pub answer_numbers : List ℕ
  answer_numbers = numbers_at (answer_widths w) a answer_at

  unfoldable pub begin_in : ℕ
  begin_in = get_or answer_numbers 0 0

  unfoldable pub reader_in : ℕ
  reader_in = get_or answer_numbers 1 0

  unfoldable pub pair_in : ℕ
  pair_in = stamped w (get_or answer_numbers 2 0) (get_or answer_numbers 3 0)

  unfoldable pub count_in : ℕ
  count_in = get_or answer_numbers 4 0

  unfoldable pub zero_in : ℕ
  zero_in = get_or answer_numbers 5 0
