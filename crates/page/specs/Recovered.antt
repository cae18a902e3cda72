-- The answers read back from a page alone (document 02, 'Two': 'From the sheet alone each answer can be recovered').
use Rattle.std.specs.Prelude.{cond, List, [], ◌∷◌, ◌++◌, ℕ, zero, suc, ◌+◌, ◌*◌, ◌-◌, ◌/◌, eqb, length, get_or, take, drop}
use Rattle.decimal.specs.Decimal.{read_from}
use Rattle.bits.specs.Layout.{total, packed_bits, in_bytes}
use Rattle.plan.specs.Form.{form_one, form_two, width_of}
use Rattle.answers.specs.Answers.{answer_widths}
use Rattle.page.specs.Page.{line_columns, line_size, value_columns, cells, dash}

-- the characters of line i
unfoldable pub line_in : List ℕ → ℕ → List ℕ
line_in page i = take line_columns (drop (line_size * i) page)

-- the numbers in the cells of a line; a space counts nothing
unfoldable pub cell_numbers : List ℕ → List ℕ → List ℕ
cell_numbers [] line = []
cell_numbers (c ∷ cs) line = read_from 0 (take c line) ∷ cell_numbers cs (drop c line)

-- the answer of a read's line: begin, reader, value, number and count, and a zero bit
unfoldable pub answer_on : ℕ → List ℕ → List ℕ
answer_on w line =
    let n : List ℕ = cell_numbers cells line in
    in_bytes (packed_bits (answer_widths w) (get_or n 0 0 ∷ get_or n 1 0 ∷ get_or n 3 0 ∷ get_or n 4 0 ∷ get_or n 5 0 ∷ 0 ∷ []))

-- those of the first reads, whose lines stand behind heading and rule
unfoldable pub answers_from : ℕ → List ℕ → ℕ → List ℕ
answers_from w page zero = []
answers_from w page (suc i) = answers_from w page i ++ answer_on w (line_in page (i + 2))

-- the rule tells the form: only in form two there is a dash in the first of its columns for a value
unfoldable pub form_on : List ℕ → ℕ
form_on page = cond (eqb (get_or (line_in page 1) (total (take 4 cells) - value_columns (width_of form_two)) 0) dash) form_two form_one

-- all answers: heading, rule and closing line are no reads
unfoldable pub answers_on : List ℕ → List ℕ
answers_on page = answers_from (width_of (form_on page)) page (length page / line_size - 3)
