-- Sums over the numbers below a bound, and counts as sums: their order, a common factor, and a test that one number passes.
-- It stands on the register's laws of counting.
use mathlib.Core.Path.{◌≡◌, refl, sym, ◌∙◌}
use mathlib.Core.Bool.{Bool, true, false, not, ◌&&◌, cond, and-true}
use mathlib.Core.List.{List, [], ◌∷◌}
use Prim.Native.Nat.{ℕ, zero, suc, ◌+◌, ◌*◌, ◌-◌, ◌≤◌, ◌<◌}
use native.Mathlib.Nat.{mul-zero, zero-mul, mul-one, suc-mul, mul-add}
use native.Mathlib.Omega.{arith}
use native.Mathlib.Decide.{ℕ_discrete}
use lib.Dec.{eqb}
use lib.ListN.{length, get_or}
use borrow.Author.Tests.{eq-eqb, ne_eqb}
use Rattle.register.specs.Lists.{one_if, count, filter}
use Rattle.register.proofs.Logic.{eqb_comm}
use Rattle.register.proofs.Counting.{count_cong, count_not, count_low}
use Rattle.traffic.specs.Traffic.{sum, largest}

pub sum_cong : (f g : ℕ → ℕ) (n : ℕ) → ((i : ℕ) → i < n → f i ≡ g i) → sum f n ≡ sum g n
unfolding sum
sum_cong f g zero e = refl
sum_cong f g (suc n) e = rw (e n (omega arith), sum_cong f g n (λ i l. e i (omega arith)))

pub largest_cong : (f g : ℕ → ℕ) (n : ℕ) → ((i : ℕ) → i < n → f i ≡ g i) → largest f n ≡ largest g n
unfolding largest
largest_cong f g zero e = refl
largest_cong f g (suc n) e = rw (e n (omega arith), largest_cong f g n (λ i l. e i (omega arith)))

pub sum_le : (f : ℕ → ℕ) (m n : ℕ) → ((i : ℕ) → i < n → f i ≤ m) → sum f n ≤ n * m
unfolding sum
sum_le f m zero l = omega arith
sum_le f m (suc n) l = rw (suc-mul n m) (omega (arith, l n (omega arith), sum_le f m n (λ i k. l i (omega arith))))

pub largest_le : (f : ℕ → ℕ) (m n : ℕ) → ((i : ℕ) → i < n → f i ≤ m) → largest f n ≤ m
unfolding largest
largest_le f m zero l = omega arith
largest_le f m (suc n) l = omega (arith, l n (omega arith), largest_le f m n (λ i k. l i (omega arith)))

sum_none : (n : ℕ) → sum (λ i. 0) n ≡ 0
unfolding sum
sum_none zero = refl
sum_none (suc n) = omega (arith, sum_none n)

pub sum_same : (m n : ℕ) → sum (λ i. m) n ≡ n * m
unfolding sum
sum_same m zero = sym (zero-mul m)
sum_same m (suc n) = rw (sum_same m n, suc-mul n m)

sum_add : (f g : ℕ → ℕ) (n : ℕ) → sum (λ i. f i + g i) n ≡ sum f n + sum g n
unfolding sum
sum_add f g zero = refl
sum_add f g (suc n) = omega (arith, sum_add f g n)

pub sum_times : (f : ℕ → ℕ) (k n : ℕ) → sum (λ i. k * f i) n ≡ k * sum f n
unfolding sum
sum_times f k zero = sym (mul-zero k)
sum_times f k (suc n) = rw (sum_times f k n) (sym (mul-add k (sum f n) (f n)))

-- two sums, one inside the other, in either order
pub sum_swap : (f : ℕ → ℕ → ℕ) (n m : ℕ) → sum (λ i. sum (f i) m) n ≡ sum (λ j. sum (λ i. f i j) n) m
unfolding sum
sum_swap f zero m = sym (sum_none m)
sum_swap f (suc n) m = rw (sum_swap f n m) (sym (sum_add (λ j. sum (λ i. f i j) n) (f n) m))

pub count_sum : (g : ℕ → Bool) (n : ℕ) → count g n ≡ sum (λ i. one_if (g i)) n
unfolding count sum
count_sum g zero = refl
count_sum g (suc n) = omega (arith, count_sum g n)

-- a sum of counts, in either order
pub count_swap : (g : ℕ → ℕ → Bool) (n m : ℕ) → sum (λ i. count (g i) m) n ≡ sum (λ j. count (λ i. g i j) n) m
count_swap g n m =
    sum_cong _ _ n (λ i l. count_sum (g i) m)
    ∙ sum_swap (λ i j. one_if (g i j)) n m
    ∙ sum_cong _ _ m (λ j l. sym (count_sum (λ i. g i j) n))

-- of the numbers below n none is a, where they end before it; else one is
pub count_before : (g : ℕ → Bool) (a n : ℕ) → n ≤ a → count (λ i. eqb a i && g i) n ≡ 0
unfolding count
count_before g a zero l = refl
count_before g a (suc n) l = rw (ne_eqb a n (λ z. omega arith), count_before g a n (omega arith))

pub count_at : (g : ℕ → Bool) (a n : ℕ) → a < n → count (λ i. eqb a i && g i) n ≡ one_if (g a)
unfolding count
count_at g a zero l = absurd (omega arith)
count_at g a (suc n) l = go (ℕ_discrete a n) (count_at g a n)
  where
    go : Dec (a ≡ n) → (a < n → count (λ i. eqb a i && g i) n ≡ one_if (g a)) → one_if (eqb a n && g n) + count (λ i. eqb a i && g i) n ≡ one_if (g a)
    go (yes e) ih = rw (eq-eqb a n e, count_before g a n (omega arith), e) (omega arith)
    go (no d) ih = rw (ne_eqb a n d, ih (omega arith)) (omega arith)

pub count_once : (a n : ℕ) → a < n → count (eqb a) n ≡ 1
count_once a n l = count_cong (eqb a) (λ i. eqb a i && true) n (λ i m. sym (and-true (eqb a i))) ∙ count_at (λ i. true) a n l

-- all but one
pub count_others : (b n : ℕ) → b < n → count (λ j. not (eqb j b)) n ≡ n - 1
count_others b n l =
    let one : count (λ j. eqb j b) n ≡ 1 = count_cong (λ j. eqb j b) (eqb b) n (λ j m. eqb_comm j b) ∙ count_once b n l in
    omega (arith, one, count_not (λ j. eqb j b) n)

module _ {A : Type 0} where
  -- how many of a list pass a test, by index
  pub length_filter : (p : A → Bool) (xs : List A) (d : A) → length (filter p xs) ≡ count (λ j. p (get_or xs j d)) (length xs)
  unfolding filter count
  length_filter p [] d = refl
  length_filter p (x ∷ xs) d = go (p x) (length_filter p xs d) ∙ sym (count_low (λ j. p (get_or (x ∷ xs) j d)) (length xs))
    where
      go : (b : Bool) → length (filter p xs) ≡ count (λ j. p (get_or xs j d)) (length xs)
          → length (cond b (x ∷ filter p xs) (filter p xs)) ≡ one_if b + count (λ j. p (get_or xs j d)) (length xs)
      go true e = rw e (omega arith)
      go false e = rw e (omega arith)

  -- each of a list falls into one tick below H: counted by ticks they are all
  pub each_once : (when : A → ℕ) (xs : List A) (d : A) (H : ℕ) → ((j : ℕ) → j < length xs → when (get_or xs j d) < H)
      → sum (λ t. length (filter (λ x. eqb (when x) t) xs)) H ≡ length xs
  each_once when xs d H below =
      sum_cong _ _ H (λ t l. length_filter (λ x. eqb (when x) t) xs d)
      ∙ count_swap (λ t j. eqb (when (get_or xs j d)) t) H (length xs)
      ∙ sum_cong _ _ (length xs) (λ j l. count_once (when (get_or xs j d)) H (below j l))
      ∙ sum_same 1 (length xs)
      ∙ mul-one (length xs)
