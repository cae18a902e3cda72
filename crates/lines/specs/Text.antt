-- The text that the program prints for a plan (document 01, 'Operations of the library': 'A program reads a plan on standard input and prints').
use Rattle.std.specs.Prelude.{List, [], ◌∷◌, ◌++◌, ℕ, ◌+◌, ◌*◌, length, take, drop}
use Rattle.decimal.specs.Decimal.{decimal_of}
use Rattle.decimal.specs.Aligned.{space, line_feed}
use Rattle.register.specs.Plan.{Plan, Read, read_end, value_of, number_of}
use Rattle.register.specs.Reading.{Answer, answer_of}
use Rattle.plan.specs.Form.{form_one, width_of}
use Rattle.plan.specs.Limits.{most_reads}
use Rattle.plan.specs.Packed.{plan_of}
use Rattle.plan.specs.Check.{Outcome, refused, result, check_of}

-- Ten: 'the program reads form one'
abbrev pub program_form : ℕ
program_form = form_one

-- the bits of a value in it
abbrev pub program_width : ℕ
program_width = width_of program_form

-- "reads "
abbrev pub reads_word : List ℕ
reads_word = 114 ∷ 101 ∷ 97 ∷ 100 ∷ 115 ∷ 32 ∷ []

-- "refused "
abbrev pub refused_word : List ℕ
refused_word = 114 ∷ 101 ∷ 102 ∷ 117 ∷ 115 ∷ 101 ∷ 100 ∷ 32 ∷ []

-- a number and the byte behind it
abbrev pub number_then : ℕ → ℕ → List ℕ
number_then byte n = decimal_of n ++ (byte ∷ [])

-- numbers 'with single spaces', and the line's end
unfoldable pub line_with : List ℕ → List ℕ
line_with [] = []
line_with (x ∷ []) = number_then line_feed x
line_with (x ∷ y ∷ xs) = number_then space x ++ line_with (y ∷ xs)

-- 'per read begin, screen, end, cue, number, count', of values of w bits
unfoldable pub line_of : ℕ → Plan → Read → List ℕ
line_of w P r =
    let a : Answer = answer_of P r in
    line_with (r.begun ∷ r.reader ∷ read_end P r ∷ value_of w a.pair ∷ number_of w a.pair ∷ a.count ∷ [])

unfoldable pub lines_for : ℕ → Plan → List Read → List ℕ
lines_for w P [] = []
lines_for w P (r ∷ rs) = line_of w P r ++ lines_for w P rs

-- '`reads` and the count; then per read ..; or `refused` and the number'
unfoldable pub text_after : ℕ → List ℕ → Outcome ℕ → List ℕ
text_after w s (refused number) = refused_word ++ line_with (number ∷ [])
text_after w s (result m) = let P : Plan = plan_of w s in (reads_word ++ line_with (m ∷ [])) ++ lines_for w P P.reads

-- the whole text for a packed plan
unfoldable pub text_of : ℕ → List ℕ → List ℕ
text_of w s = text_after w s (check_of w s)

-- the longest first line, the longest line of a read, and the longest text
abbrev pub most_first : ℕ
most_first = 10

abbrev pub most_line : ℕ
most_line = 23

abbrev pub most_text : ℕ
most_text = most_first + most_line * most_reads

-- How long a text is, and the bytes of a buffer afterwards.
pub record Written : Type 0 where
  pub size : ℕ
  pub bytes : List ℕ

-- as much of the text as fits at the buffer's start, the rest as it was
unfoldable pub written_over : List ℕ → List ℕ → Written
written_over text buffer = record { size = length text; bytes = take (length buffer) text ++ drop (length text) buffer }
