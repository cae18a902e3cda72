-- The reads among a table of operations: counted, and tested, by an index that rises.
-- It stands on the definitions of the plan's parts.
use mathlib.Core.Path.{◌≡◌, refl, ap, ◌∙◌}
use mathlib.Core.Bool.{Bool, true, false, not, ◌&&◌, ◌||◌, cond, or_comm}
use mathlib.Core.List.{List, [], ◌∷◌, ◌++◌, map}
use Prim.Native.Nat.{ℕ, zero, suc, ◌+◌}
use native.Mathlib.Nat.{zero-add}
use native.Mathlib.Numerals.{add-one}
use native.Mathlib.Omega.{arith}
use lib.Dec.{eqb}
use lib.ListN.{length, length-append}
use Rattle.register.specs.Lists.{count, one_if, any_up_to, any, filter, tab, tab_from}
use Rattle.register.specs.Plan.{Read}
use Rattle.register.proofs.Lists.{any_append, tab_last}
use Rattle.plan.specs.Parts.{Operation, reads_from}

abbrev pub is_read : Operation → Bool
is_read o = not (eqb o.party 0)

-- the read that an operation says
abbrev pub read_by : Operation → Read
read_by o = record { begun = o.at; reader = o.party }

reads_append : (l m : List Operation) → reads_from (l ++ m) ≡ reads_from l ++ reads_from m
unfolding reads_from filter
reads_append [] m = refl
reads_append (o ∷ l) m = go (is_read o) (reads_append l m)
  where
    go : (b : Bool) → reads_from (l ++ m) ≡ reads_from l ++ reads_from m
        → map read_by (cond b (o ∷ filter is_read (l ++ m)) (filter is_read (l ++ m))) ≡ map read_by (cond b (o ∷ filter is_read l) (filter is_read l)) ++ reads_from m
    go true e = ap (λ r. read_by o ∷ r) e
    go false e = e

-- one operation more
pub reads_last : (n : ℕ) (g : ℕ → Operation) → reads_from (tab (suc n) g) ≡ reads_from (tab n g) ++ cond (is_read (g n)) (read_by (g n) ∷ []) []
unfolding reads_from filter
reads_last n g = ap reads_from (tab_last 0 n g) ∙ reads_append (tab n g) (g (0 + n) ∷ []) ∙ rw (zero-add n) (ap (λ r. reads_from (tab n g) ++ r) (go (is_read (g n))))
  where
    go : (b : Bool) → map read_by (cond b (g n ∷ []) []) ≡ cond b (read_by (g n) ∷ []) []
    go true = refl
    go false = refl

pub length_reads : (n : ℕ) (g : ℕ → Operation) → length (reads_from (tab n g)) ≡ count (λ j. is_read (g j)) n
unfolding count reads_from filter tab_from
length_reads zero g = refl
length_reads (suc n) g = ap length (reads_last n g) ∙ length-append (reads_from (tab n g)) _ ∙ rw (length_reads n g) (go (is_read (g n)))
  where
    go : (b : Bool) → count (λ j. is_read (g j)) n + length (cond b (read_by (g n) ∷ []) []) ≡ one_if b + count (λ j. is_read (g j)) n
    go true = omega arith
    go false = omega arith

pub any_reads : (p : Read → Bool) (n : ℕ) (g : ℕ → Operation) → any p (reads_from (tab n g)) ≡ any_up_to n (λ j. is_read (g j) && p (read_by (g j)))
unfolding any_up_to any reads_from filter tab_from
any_reads p zero g = refl
any_reads p (suc n) g =
    let rest : Bool = any_up_to n (λ j. is_read (g j) && p (read_by (g j))) in
    let here : List Read = cond (is_read (g n)) (read_by (g n) ∷ []) [] in
    ap (any p) (reads_last n g)
    ∙ any_append p (reads_from (tab n g)) here
    ∙ rw (any_reads p n g) (or_comm rest (any p here) ∙ ap (λ b. b || rest) (go (is_read (g n))))
  where
    go : (b : Bool) → any p (cond b (read_by (g n) ∷ []) []) ≡ b && p (read_by (g n))
    go true = or_comm (p (read_by (g n))) false
    go false = refl

-- one more index
pub count_yes : (g : ℕ → Bool) (n : ℕ) → g n ≡ true → count g (n + 1) ≡ count g n + 1
unfolding count
count_yes g n t = rw (add-one, t) (omega arith)

pub count_no : (g : ℕ → Bool) (n : ℕ) → g n ≡ false → count g (n + 1) ≡ count g n
unfolding count
count_no g n t = rw (add-one, t) (omega arith)
