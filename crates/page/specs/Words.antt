-- What the code asks of the words of a line.
use Rattle.std.specs.Prelude.{List, [], ◌∷◌, ℕ, ◌≤◌, length}

-- no word is longer than its cell
abbrev pub fit_cells : List ℕ → List (List ℕ) → Type 0
fit_cells [] words = Unit {0}
fit_cells (c ∷ cs) [] = Unit {0}
fit_cells (c ∷ cs) (word ∷ words) = (length word ≤ c) × fit_cells cs words
