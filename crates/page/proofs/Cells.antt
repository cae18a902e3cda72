-- A line under way: words in its first cells, and spaces behind them.
-- It stands on the laws of words at the right end of columns.
use mathlib.Core.Path.{◌≡◌, refl, sym, ap, ◌∙◌}
use mathlib.Core.List.{List, [], ◌∷◌, ◌++◌, append_assoc, append-nil}
use Prim.Native.Nat.{ℕ, zero, suc, ◌+◌, ◌≤◌, ◌<◌}
use native.Mathlib.Omega.{arith}
use lib.Dec.{eqb, leb}
use lib.ListN.{length, get_or, take, drop, length-append}
use lib.Seq.{take_all}
use borrow.Author.Tests.{eqb-true, leb-true}
use Rattle.std.proofs.lemmas.List.{take_more, drop_more}
use Rattle.decimal.specs.Stored.{Stored}
use Rattle.decimal.specs.Aligned.{spaces, right}
use Rattle.decimal.proofs.Aligning.{right_length, stored_right}
use Rattle.bits.specs.Layout.{total}
use Rattle.bits.proofs.Records.{total_append}
use Rattle.register.specs.Lists.{all_up_to}
use Rattle.plan.proofs.Laws.{all_at}
use Rattle.page.specs.Page.{line_columns, cells, in_cells}
use Rattle.page.specs.Words.{fit_cells}

-- words fill the cells cs of a line, and r spaces are left of it
pub record Underway (cs : List ℕ) (words : List (List ℕ)) (line : List ℕ) (r : ℕ) : Type 0 where
  pub is : line ≡ in_cells cs words ++ spaces r
  pub filled : length (in_cells cs words) ≡ total cs
  pub each : length words ≡ length cs

cells_more : (cs : List ℕ) (words : List (List ℕ)) (c : ℕ) (word : List ℕ) → length words ≡ length cs
    → in_cells (cs ++ (c ∷ [])) (words ++ (word ∷ [])) ≡ in_cells cs words ++ right c word
unfolding in_cells
cells_more [] [] c word e = append-nil (right c word)
cells_more [] (x ∷ words) c word e = absurd (omega arith)
cells_more (d ∷ cs) [] c word e = absurd (omega arith)
cells_more (d ∷ cs) (x ∷ words) c word e = rw (cells_more cs words c word (omega arith)) (sym (append_assoc (right d x) (in_cells cs words) (right c word)))

-- an empty line
pub none_yet : Underway [] [] (spaces line_columns) line_columns
unfolding in_cells
none_yet = record { is = refl; filled = refl; each = refl }

-- a word more is stored, so that it ends where its cell ends
pub one_more : {cs : List ℕ} {words : List (List ℕ)} {line word o : List ℕ} {at y : ℕ} (c r : ℕ) → Underway cs words line (c + r) → length word ≤ c
    → y ≡ total cs + c → Stored line at word o y → Underway (cs ++ (c ∷ [])) (words ++ (word ∷ [])) o r
one_more {cs} {words} {line} {word} {o} {at} c r U h e S =
    let more = cells_more cs words c word U.each in
    record {
      is = rw more (stored_right (in_cells cs words) word at c r h (omega (arith, S.next_is, U.filled)) (rw U.is at S));
      filled = rw (more, length-append (in_cells cs words) (right c word), right_length c word h, total_append cs (c ∷ [])) (omega (arith, U.filled));
      each = rw (length-append words (word ∷ []), length-append cs (c ∷ [])) (omega (arith, U.each));
    }

-- all cells are filled
pub all_filled : {words : List (List ℕ)} {line : List ℕ} → Underway cells words line 0 → line ≡ in_cells cells words
all_filled {words} U = U.is ∙ append-nil (in_cells cells words)

-- the columns behind the cells
abbrev after : List ℕ
after = 7 ∷ 19 ∷ 28 ∷ 42 ∷ 54 ∷ 66 ∷ 80 ∷ []

module _ (i : ℕ) (l : i < length cells) where
  ends_at : get_or after i 0 ≡ total (take i cells) + get_or cells i 0
  unfolding all_up_to
  ends_at = eqb-true _ _ (all_at (λ i. eqb (get_or after i 0) (total (take i cells) + get_or cells i 0)) 7 i l refl)

  ends_inside : get_or after i 0 ≤ line_columns
  unfolding all_up_to
  ends_inside = leb-true _ _ (all_at (λ i. leb (get_or after i 0) line_columns) 7 i l refl)

fits_in : (cs : List ℕ) (words : List (List ℕ)) (i : ℕ) → i < length cs → i < length words → fit_cells cs words → length (get_or words i []) ≤ get_or cs i 0
fits_in [] words i l m f = absurd (omega arith)
fits_in (c ∷ cs) [] i l m f = absurd (omega arith)
fits_in (c ∷ cs) (word ∷ words) zero l m f = f.0
fits_in (c ∷ cs) (word ∷ words) (suc i) l m f = fits_in cs words i (omega arith) (omega arith) f.1

-- the first i words of a line stand in their cells
abbrev pub Begun : List (List ℕ) → List ℕ → ℕ → Type 0
Begun words line i = Underway (take i cells) (take i words) line (total (drop i cells))

module _ (words : List (List ℕ)) (n : length words ≡ length cells) where
  module _ (f : fit_cells cells words) (i : ℕ) (l : i < length cells) {word : List ℕ} (e : get_or words i [] ≡ word) where
    fits : length word ≤ get_or cells i 0
    fits = rw e at (fits_in cells words i l (omega arith) f)

    pub has_room : (length word ≤ get_or after i 0) × (get_or after i 0 ≤ line_columns)
    has_room = (omega (arith, fits, ends_at i l), ends_inside i l)

    pub next : {line o : List ℕ} {at : ℕ} → Begun words line i → Stored line at word o (get_or after i 0) → Begun words o (i + 1)
    next U S =
        let left : total (drop i cells) ≡ get_or cells i 0 + total (drop (i + 1) cells) = ap total (drop_more cells i 0 l) in
        rw (take_more cells i 0 l, take_more words i [] (omega arith), e)
        (one_more (get_or cells i 0) (total (drop (i + 1) cells)) (rw left at U) fits (ends_at i l) S)

  pub each_filled : {line : List ℕ} (i : ℕ) → Begun words line i → i ≡ length cells → line ≡ in_cells cells words
  each_filled {line} i U e =
      let all : Begun words line (length cells) = rw e at U in
      all_filled (rw (take_all (length cells) words (omega arith)) at all)
