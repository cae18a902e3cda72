-- Counting: how many i below n pass a test. Sums, complements, and a witness where more pass one test than another.
-- It stands on nothing of the register.
use mathlib.Core.Path.{◌≡◌, refl, ap}
use mathlib.Core.Bool.{Bool, true, false, not, ◌||◌}
use mathlib.Core.Logic.{◌⊎◌, inl, inr}
use Prim.Native.Nat.{ℕ, zero, suc, ◌+◌, ◌≤◌, ◌<◌}
use native.Mathlib.Omega.{arith}
use native.Mathlib.Decide.{ℕ_discrete}
use lib.Dec.{T, eqb}
use Rattle.register.specs.Lists.{one_if, count, any_up_to}
use Rattle.register.proofs.Logic.{or_e, or_l, or_r}

pub one_if_le : (a : Bool) → one_if a ≤ 1
one_if_le true = omega arith
one_if_le false = omega arith

-- a binary digit
pub digit_one : (x : ℕ) → x < 2 → x ≡ one_if (eqb x 1)
digit_one zero h = refl
digit_one (suc zero) h = refl
digit_one (suc (suc x)) h = absurd (omega arith)

one_if_or : (a b c : Bool) → (T a → T b ⊎ T c) → one_if a ≤ one_if b + one_if c
one_if_or false b c h = omega arith
one_if_or true true c h = omega arith
one_if_or true false true h = omega arith
one_if_or true false false h = elim (h tt) [ inl x ↦ absurd x | inr x ↦ absurd x ]

one_if_not : (a : Bool) → one_if a + one_if (not a) ≡ 1
one_if_not true = refl
one_if_not false = refl

-- The counting lemmas.
pub count_le : (P : ℕ → Bool) (n : ℕ) → count P n ≤ n
unfolding count
count_le P zero = omega arith
count_le P (suc n) = omega (arith, count_le P n, one_if_le (P n))

pub count_or : (P Q R : ℕ → Bool) (n : ℕ) → ((i : ℕ) → i < n → T (P i) → T (Q i) ⊎ T (R i)) → count P n ≤ count Q n + count R n
unfolding count
count_or P Q R zero h = omega arith
count_or P Q R (suc n) h =
    omega (arith, count_or P Q R n (λ i l. h i (omega arith)), one_if_or (P n) (Q n) (R n) (h n (omega arith)))

pub count_none : (n : ℕ) → count (λ i. false) n ≡ 0
unfolding count
count_none zero = refl
count_none (suc n) = omega (arith, count_none n)

pub count_mono : (P Q : ℕ → Bool) (n : ℕ) → ((i : ℕ) → i < n → T (P i) → T (Q i)) → count P n ≤ count Q n
count_mono P Q n h = omega (arith, count_or P Q (λ i. false) n (λ i l t. inl (h i l t)), count_none n)

pub count_not : (P : ℕ → Bool) (n : ℕ) → count P n + count (λ i. not (P i)) n ≡ n
unfolding count
count_not P zero = refl
count_not P (suc n) = omega (arith, count_not P n, one_if_not (P n))

-- more satisfy P than Q: one satisfies P and not Q
pub count_pick : (P Q : ℕ → Bool) (n : ℕ) → count Q n < count P n → (i : ℕ) × (i < n) × T (P i) × T (not (Q i))
unfolding count
count_pick P Q zero h = absurd (omega arith)
count_pick P Q (suc n) h = go (P n) (Q n) refl refl (count_pick P Q n)
  where
    Pick : ℕ → Type 0
    Pick m = (i : ℕ) × (i < m) × T (P i) × T (not (Q i))

    later : Pick n → Pick (suc n)
    later r = (r.0, omega arith, r.2, r.3)

    go : (a b : Bool) → P n ≡ a → Q n ≡ b → (count Q n < count P n → Pick n) → Pick (suc n)
    go true false p q ih = (n, omega arith, rw p tt, rw q tt)
    go true true p q ih = later (ih (omega (arith, ap one_if p, ap one_if q)))
    go false false p q ih = later (ih (omega (arith, ap one_if p, ap one_if q)))
    go false true p q ih = later (ih (omega (arith, ap one_if p, ap one_if q)))

pub count_cong : (P Q : ℕ → Bool) (n : ℕ) → ((i : ℕ) → i < n → P i ≡ Q i) → count P n ≡ count Q n
unfolding count
count_cong P Q zero h = refl
count_cong P Q (suc n) h = rw (h n (omega arith), count_cong P Q n (λ i l. h i (omega arith)))

-- the first index apart from the others
pub count_low : (P : ℕ → Bool) (n : ℕ) → count P (suc n) ≡ one_if (P 0) + count (λ i. P (suc i)) n
unfolding count
count_low P zero = refl
count_low P (suc n) = omega (arith, count_low P n)

-- one passes where the count is not 0
pub count_some : (P : ℕ → Bool) (n : ℕ) → 1 ≤ count P n → (i : ℕ) × (i < n) × T (P i)
count_some P n h = let r = count_pick P (λ i. false) n (omega (arith, count_none n)) in (r.0, r.1, r.2)

-- some i below n passes, as a witness
pub any_up_to_e : (n : ℕ) (g : ℕ → Bool) → T (any_up_to n g) → (d : ℕ) × (d < n) × T (g d)
unfolding any_up_to
any_up_to_e zero g t = absurd t
any_up_to_e (suc n) g t = go (or_e (g n) (any_up_to n g) t) (any_up_to_e n g)
  where
    go : T (g n) ⊎ T (any_up_to n g) → (T (any_up_to n g) → (d : ℕ) × (d < n) × T (g d)) → (d : ℕ) × (d < suc n) × T (g d)
    go (inl h) ih = (n, omega arith, h)
    go (inr h) ih = let r = ih h in (r.0, omega arith, r.2)

pub any_up_to_i : (n : ℕ) (g : ℕ → Bool) (d : ℕ) → d < n → T (g d) → T (any_up_to n g)
unfolding any_up_to
any_up_to_i zero g d l t = absurd (omega arith)
any_up_to_i (suc n) g d l t = go (ℕ_discrete d n) (λ m. any_up_to_i n g d m t)
  where
    go : Dec (d ≡ n) → (d < n → T (any_up_to n g)) → T (g n || any_up_to n g)
    go (yes e) ih = or_l (g n) (any_up_to n g) (rw e at t)
    go (no m) ih = or_r (g n) (any_up_to n g) (ih (omega arith))

-- the same tests, and tests that all fail
pub any_cong : (n : ℕ) (f h : ℕ → Bool) → ((u : ℕ) → u < n → f u ≡ h u) → any_up_to n f ≡ any_up_to n h
unfolding any_up_to
any_cong zero f h e = refl
any_cong (suc n) f h e = rw (e n (omega arith), any_cong n f h (λ u l. e u (omega arith)))

pub none_up : (n : ℕ) (f : ℕ → Bool) → ((u : ℕ) → u < n → f u ≡ false) → any_up_to n f ≡ false
unfolding any_up_to
none_up zero f e = refl
none_up (suc n) f e = rw (e n (omega arith), none_up n f (λ u l. e u (omega arith)))
