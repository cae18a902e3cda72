-- The page of a sheet (document 02, 'Two'). What the document leaves to us, heading, rule, mark and columns, docs/SHEET.md shows.
use Rattle.std.specs.Prelude.{Bool, true, false, cond, List, [], ◌∷◌, ◌++◌, map, ℕ, zero, suc, leb, length, replicate}
use Rattle.decimal.specs.Aligned.{space, line_feed, spaces, right, aligned}
use Rattle.register.specs.Lists.{any}
use Rattle.register.specs.Plan.{Plan, Read, read_end, value_of, number_of}
use Rattle.register.specs.Regular.{concurrent}
use Rattle.plan.specs.Form.{form_one, width_of}
use Rattle.plan.specs.Packed.{plan_of}
use Rattle.answers.specs.Answers.{pair_in, count_in}
use Rattle.results.specs.Judge.{read_of}

-- 'lines of exactly 80 characters and a line feed'
abbrev pub line_columns : ℕ
line_columns = 80

abbrev pub line_size : ℕ
line_size = suc line_columns

abbrev pub ended : List ℕ → List ℕ
ended line = line ++ (line_feed ∷ [])

-- 'cues right-aligned in 5 columns'; Ten: 'the sheet gives cues of form two 8 columns'
abbrev pub value_columns : ℕ → ℕ
value_columns w = cond (leb w (width_of form_one)) 5 8

-- how wide begin, screen, end, cue, number, count ('the count in 2') and mark are, with values of w bits
abbrev pub columns : ℕ → List ℕ
columns w = 3 ∷ 1 ∷ 3 ∷ value_columns w ∷ 3 ∷ 2 ∷ 1 ∷ []

-- each at the right end of a cell; the cells fill the line, so the mark stands 'in the last column'
abbrev pub cells : List ℕ
cells = 7 ∷ 12 ∷ 9 ∷ 14 ∷ 12 ∷ 12 ∷ 14 ∷ []

-- words, each at the right end of its cell
unfoldable pub in_cells : List ℕ → List (List ℕ) → List ℕ
in_cells [] words = []
in_cells (c ∷ cs) [] = []
in_cells (c ∷ cs) (word ∷ words) = right c word ++ in_cells cs words

-- "begin", "screen", "end", "cue", "number", "count", "writing"
abbrev pub titles : List (List ℕ)
titles =
    (98 ∷ 101 ∷ 103 ∷ 105 ∷ 110 ∷ [])
    ∷ (115 ∷ 99 ∷ 114 ∷ 101 ∷ 101 ∷ 110 ∷ [])
    ∷ (101 ∷ 110 ∷ 100 ∷ [])
    ∷ (99 ∷ 117 ∷ 101 ∷ [])
    ∷ (110 ∷ 117 ∷ 109 ∷ 98 ∷ 101 ∷ 114 ∷ [])
    ∷ (99 ∷ 111 ∷ 117 ∷ 110 ∷ 116 ∷ [])
    ∷ (119 ∷ 114 ∷ 105 ∷ 116 ∷ 105 ∷ 110 ∷ 103 ∷ [])
    ∷ []

-- 'a heading'
unfoldable pub heading : List ℕ
heading = in_cells cells titles

-- '-'
abbrev pub dash : ℕ
dash = 45

-- 'a rule': a dash for each column of a field
unfoldable pub rule : ℕ → List ℕ
rule w = in_cells cells (map (λ k. replicate k dash) (columns w))

-- numbers, each 'right-aligned' in its columns
unfoldable pub aligned_in : List ℕ → List ℕ → List (List ℕ)
aligned_in [] numbers = []
aligned_in (k ∷ ks) [] = []
aligned_in (k ∷ ks) (n ∷ ns) = aligned k n ∷ aligned_in ks ns

-- was some write of the plan concurrent with the read, answered or not
unfoldable pub is_marked : Plan → Read → Bool
is_marked P r = any (concurrent P r) P.writes

-- 'a mark .. exactly where a write was concurrent': '*'
abbrev pub mark_of : Bool → List ℕ
mark_of true = 42 ∷ []
mark_of false = space ∷ []

-- the line of a read with these numbers
unfoldable pub row_of : ℕ → List ℕ → Bool → List ℕ
row_of w numbers marked = in_cells cells (aligned_in (columns w) numbers ++ (mark_of marked ∷ []))

-- 'An empty line is 80 spaces and a line feed.'
abbrev pub empty_line : List ℕ
empty_line = ended (spaces line_columns)

module _ (w : ℕ) (s a : List ℕ) where
  -- 'one line for each read': begin, screen and end of read i, cue, number and count of its answer
  unfoldable pub read_line : ℕ → List ℕ
  read_line i =
      let P : Plan = plan_of w s in
      let r : Read = read_of P i in
      let p : ℕ = pair_in w a i in
      row_of w (r.begun ∷ r.reader ∷ read_end P r ∷ value_of w p ∷ number_of w p ∷ count_in w a i ∷ []) (is_marked P r)

  -- 'the lines stand in the answers' order': those of the first reads
  unfoldable pub read_lines : ℕ → List ℕ
  read_lines zero = []
  read_lines (suc i) = read_lines i ++ ended (read_line i)

  -- 'a heading, a rule, one line for each read .. The page closes with an empty line.'
  unfoldable pub page_of : List ℕ
  page_of = (ended heading ++ ended (rule w)) ++ (read_lines (length (plan_of w s).reads) ++ empty_line)
