-- The answers of a plan in the other form's width (document 02, 'Ten': 'the same answers with the wider field').
use Rattle.std.specs.Prelude.{List, [], ◌∷◌, ◌++◌, ℕ}
use Rattle.bits.specs.Layout.{packed_bits, in_bytes}
use Rattle.register.specs.Plan.{Plan, Read}
use Rattle.register.specs.Reading.{answer_of}
use Rattle.plan.specs.Packed.{plan_of}
use Rattle.answers.specs.Answers.{answer_widths, answer_with}

-- the numbers that an answer has at v bits, packed with w bits for the value
unfoldable pub carried_for : ℕ → ℕ → Plan → List Read → List ℕ
carried_for v w P [] = []
carried_for v w P (r ∷ rs) = in_bytes (packed_bits (answer_widths w) (answer_with v r (answer_of P r))) ++ carried_for v w P rs

-- all answers of the packed plan s
unfoldable pub carried_answers : ℕ → ℕ → List ℕ → List ℕ
carried_answers v w s = let P : Plan = plan_of v s in carried_for v w P P.reads
