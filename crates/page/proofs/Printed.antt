-- Every line of a page is made of characters that can be printed, whatever the plan and the answers are.
-- It stands on the digits of numbers.
use mathlib.Core.Path.{◌≡◌, refl}
use mathlib.Core.Bool.{Bool, true, false, ◌&&◌}
use mathlib.Core.List.{List, [], ◌∷◌, ◌++◌, map}
use Prim.Native.Nat.{ℕ, zero, suc, ◌-◌, ◌%◌, ◌≤◌}
use native.Mathlib.Omega.{arith}
use lib.Dec.{leb}
use lib.ListN.{length, replicate}
use borrow.Author.Tests.{le-leb}
use Rattle.decimal.specs.{Decimal.digit_byte, Decimal.decimal_of, Aligned.space, Aligned.spaces, Aligned.right}
use Rattle.decimal.proofs.Laws.{by_digits}
use Rattle.page.specs.Page.{cells, columns, in_cells, heading, dash, rule, aligned_in, mark_of, row_of, read_line}
use Rattle.page.specs.Printable.{is_printable}

append : (a b : List ℕ) → is_printable a ≡ true → is_printable b ≡ true → is_printable (a ++ b) ≡ true
unfolding is_printable
append [] b e f = f
append (x ∷ a) b e f = go (leb 32 x && leb x 126) e (λ g. append a b g f)
  where
    go : (t : Bool) → t && is_printable a ≡ true → (is_printable a ≡ true → is_printable (a ++ b) ≡ true) → t && is_printable (a ++ b) ≡ true
    go true e more = more e
    go false e more = e

one : (b : ℕ) → 32 ≤ b → b ≤ 126 → is_printable (b ∷ []) ≡ true
unfolding is_printable
one b l h = rw (le-leb 32 b l, le-leb b 126 h)

same : (n b : ℕ) → 32 ≤ b → b ≤ 126 → is_printable (replicate n b) ≡ true
unfolding is_printable
same zero b l h = refl
same (suc n) b l h = append (b ∷ []) (replicate n b) (one b l h) (same n b l h)

digits : (n : ℕ) → is_printable (decimal_of n) ≡ true
digits = by_digits (λ n ds. is_printable ds ≡ true) (λ n h. one (digit_byte n) (omega arith) (omega arith))
    (λ n ds h e. append ds (digit_byte (n % 10) ∷ []) e (one (digit_byte (n % 10)) (omega arith) (omega arith)))

at_right : (c : ℕ) (word : List ℕ) → is_printable word ≡ true → is_printable (right c word) ≡ true
unfolding right
at_right c word e = append (spaces (c - length word)) word (same (c - length word) space (omega arith) (omega arith)) e

-- words that can be printed, in cells and in columns
abbrev Words : List (List ℕ) → Type 0
Words [] = Unit {0}
Words (word ∷ words) = (is_printable word ≡ true) × Words words

in_cells_lem : (cs : List ℕ) (words : List (List ℕ)) → Words words → is_printable (in_cells cs words) ≡ true
unfolding in_cells is_printable
in_cells_lem [] words w = refl
in_cells_lem (c ∷ cs) [] w = refl
in_cells_lem (c ∷ cs) (word ∷ words) w = append (right c word) (in_cells cs words) (at_right c word w.0) (in_cells_lem cs words w.1)

pub heading_printed : is_printable heading ≡ true
unfolding heading in_cells right is_printable
heading_printed = refl

pub rule_printed : (w : ℕ) → is_printable (rule w) ≡ true
unfolding rule
rule_printed w = in_cells_lem cells (map (λ k. replicate k dash) (columns w)) (dashed (columns w))
  where
    dashed : (ks : List ℕ) → Words (map (λ k. replicate k dash) ks)
    dashed [] = tt
    dashed (k ∷ ks) = (same k dash (omega arith) (omega arith), dashed ks)

pub row_printed : (w : ℕ) (numbers : List ℕ) (marked : Bool) → is_printable (row_of w numbers marked) ≡ true
unfolding row_of aligned_in is_printable
row_printed w numbers marked = in_cells_lem cells _ (fields (columns w) numbers)
  where
    mark : (m : Bool) → is_printable (mark_of m) ≡ true
    mark true = refl
    mark false = refl

    fields : (ks ns : List ℕ) → Words (aligned_in ks ns ++ (mark_of marked ∷ []))
    fields [] ns = (mark marked, tt)
    fields (k ∷ ks) [] = (mark marked, tt)
    fields (k ∷ ks) (n ∷ ns) = (at_right k (decimal_of n) (digits n), fields ks ns)

-- the line of every read
pub line_printed : (w : ℕ) (s a : List ℕ) (i : ℕ) → is_printable (read_line w s a i) ≡ true
unfolding read_line
line_printed w s a i = row_printed w _ _
