-- Plain functions on lists and on the numbers below a bound, which the step rules are written with.
use Rattle.std.specs.Prelude.{◌≡◌, Bool, true, false, ◌&&◌, ◌||◌, cond, ◌⊎◌, List, [], ◌∷◌, ◌++◌, ℕ, zero, suc, ◌+◌, max, eqb}

-- 1 for a test that passes
abbrev pub one_if : Bool → ℕ
one_if true = 1
one_if false = 0

-- how many i below n pass the test
unfoldable pub count : (ℕ → Bool) → ℕ → ℕ
count g zero = 0
count g (suc n) = one_if (g n) + count g n

-- does some i below n pass the test
unfoldable pub any_up_to : ℕ → (ℕ → Bool) → Bool
any_up_to zero g = false
any_up_to (suc n) g = g n || any_up_to n g

-- does every i below n pass the test
unfoldable pub all_up_to : ℕ → (ℕ → Bool) → Bool
all_up_to zero g = true
all_up_to (suc n) g = g n && all_up_to n g

module _ {A : Type 0} where
  -- g i, g (i + 1) .. : n of them
  unfoldable pub tab_from : ℕ → ℕ → (ℕ → A) → List A
  tab_from i zero g = []
  tab_from i (suc n) g = g i ∷ tab_from (suc i) n g

  abbrev pub tab : ℕ → (ℕ → A) → List A
  tab n g = tab_from 0 n g

  -- the lists g 0 .. g (n - 1), one after the other
  unfoldable pub flat : ℕ → (ℕ → List A) → List A
  flat zero g = []
  flat (suc n) g = flat n g ++ g n

  unfoldable pub any : (A → Bool) → List A → Bool
  any p [] = false
  any p (x ∷ xs) = p x || any p xs

  unfoldable pub filter : (A → Bool) → List A → List A
  filter p [] = []
  filter p (x ∷ xs) = cond (p x) (x ∷ filter p xs) (filter p xs)

  -- membership
  abbrev pub In : A → List A → Type 0
  In x [] = ⊥
  In x (y ∷ ys) = (x ≡ y) ⊎ In x ys

abbrev pub member : ℕ → List ℕ → Bool
member x l = any (λ y. eqb y x) l

-- each element once
unfoldable pub distinct : List ℕ → List ℕ
distinct [] = []
distinct (x ∷ xs) = let rest : List ℕ = distinct xs in cond (member x rest) rest (x ∷ rest)

-- the highest of x and the list
unfoldable pub highest : ℕ → List ℕ → ℕ
highest x [] = x
highest x (y ∷ ys) = highest (max x y) ys

-- the same numbers in the same order
unfoldable pub same_list : List ℕ → List ℕ → Bool
same_list [] [] = true
same_list [] (y ∷ ys) = false
same_list (x ∷ xs) [] = false
same_list (x ∷ xs) (y ∷ ys) = eqb x y && same_list xs ys
