-- The lines of the text, as the code has them: from the bytes of the answers.
use Rattle.std.specs.Prelude.{List, [], ◌∷◌, ◌++◌, ℕ, zero, suc, ◌+◌}
use Rattle.capi_fields.specs.Fields.{answer_field}
use Rattle.lines.specs.declared.Answer.{Answer}
use Rattle.lines.specs.Text.{program_form, line_with}

-- the fields of answer i
unfoldable pub answer_in : List ℕ → ℕ → Answer
answer_in a i = record { begin = answer_field program_form a i 0; reader = answer_field program_form a i 1; value = answer_field program_form a i 2; number = answer_field program_form a i 3; count = answer_field program_form a i 4 }

-- the line of an answer to a read that lasts so many ticks
unfoldable pub line_for : ℕ → Answer → List ℕ
line_for span x = line_with (x.begin ∷ x.reader ∷ (x.begin + span) ∷ x.value ∷ x.number ∷ x.count ∷ [])

-- the lines of the first m answers
unfoldable pub lines_in : List ℕ → ℕ → ℕ → List ℕ
lines_in a span zero = []
lines_in a span (suc i) = lines_in a span i ++ line_for span (answer_in a i)
