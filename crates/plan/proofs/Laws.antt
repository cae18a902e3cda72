-- Laws of numbers and tests that the proofs of Check share.
-- It stands on nothing of the plan.
use mathlib.Core.Path.{◌≡◌, refl, sym}
use mathlib.Core.Bool.{Bool, true, false, ◌&&◌, and-false}
use Prim.Native.Nat.{ℕ, zero, suc, ◌+◌, ◌*◌, ◌-◌, ◌/◌, ◌%◌, ◌≤◌, ◌<◌, min}
use native.Mathlib.Nat.{mul-le-mul, mul-le-mul_right, div-lt_iff_lt-mul, div-add-mod', not-suc-le-zero}
use native.Mathlib.Decide.{ℕ_discrete}
use native.Mathlib.Numerals.{add-one}
use native.Mathlib.Omega.{arith}
use lib.Arith.{digits_div}
use Rattle.std.proofs.lemmas.Nat.{mod_below}
use Rattle.register.specs.Lists.{all_up_to}
use Rattle.register.proofs.Logic.{and_both}

-- a small multiple of a byte
pub few_times : (a f : ℕ) → a ≤ 5 → f ≤ 255 → a * f ≤ 1275
few_times a f h g = mul-le-mul {n₂ = 5} {m₂ = 255} h g

-- no more movements than ticks
pub moves_few : (t p : ℕ) → 1 ≤ p → (t + (p - 1)) / p ≤ t
moves_few t zero h = absurd (not-suc-le-zero h)
moves_few t (suc q) h = omega (arith, (div-lt_iff_lt-mul {x = t + (suc q - 1)} {y = suc t} h).1 (omega arith))

-- what is rounded up, in one division
pub rounded_up : (x p : ℕ) → 1 ≤ p → x / p + min 1 (x % p) ≡ (x + (p - 1)) / p
rounded_up x p h =
    let whole = div-add-mod' x p in
    let less = mod_below x p h in
    elim (ℕ_discrete (x % p) 0) [
      | yes z ↦
          let e : x + (p - 1) ≡ x / p * p + (p - 1) = omega (arith, whole, z) in
          rw (e, digits_div (x / p) {m = p} {r = p - 1} (omega arith)) (omega (arith, z))
      | no d ↦
          let e : x + (p - 1) ≡ (x / p + 1) * p + (x % p - 1) = omega (arith, whole, less) in
          rw (e, digits_div (x / p + 1) {m = p} {r = x % p - 1} (omega (arith, less))) (omega arith)
    ]

pub square_few : (p : ℕ) → p ≤ 21 → p * p ≤ 441
square_few p h = mul-le-mul {n₂ = 21} {m₂ = 21} h h

-- a table of the delays
pub table_few : (t p : ℕ) → t ≤ 128 → p ≤ 21 → t * (p * p) ≤ 56448
table_few t p h g = mul-le-mul {n₂ = 128} {m₂ = 441} h (square_few p g)

module _ (g : ℕ → Bool) where
  pub all_none : all_up_to 0 g ≡ true
  unfolding all_up_to
  all_none = refl

  -- one more that passes
  pub all_more : (n : ℕ) → all_up_to n g ≡ true → g n ≡ true → all_up_to (n + 1) g ≡ true
  unfolding all_up_to
  all_more n h t = rw (add-one, t, h)

stop_step : (g : ℕ → Bool) (i n : ℕ) → g i ≡ false → (i < n → all_up_to n g ≡ false) → i < suc n → g n && all_up_to n g ≡ false
stop_step g i n t ih h = go (ℕ_discrete i n)
  where
    go : Dec (i ≡ n) → g n && all_up_to n g ≡ false
    go (yes e) = rw (← e, t)
    go (no d) = rw (ih (omega arith)) (and-false (g n))

-- one that fails decides
pub all_stop : (g : ℕ → Bool) (i n : ℕ) → i < n → g i ≡ false → all_up_to n g ≡ false
unfolding all_up_to
all_stop g i zero h t = absurd (not-suc-le-zero h)
all_stop g i (suc n) h t = stop_step g i n t (λ l. all_stop g i n l t) h

-- all were passed
pub all_end : (g : ℕ → Bool) (i n : ℕ) → i ≤ n → n ≤ i → all_up_to i g ≡ true → true ≡ all_up_to n g
all_end g i n a b h = let e : i ≡ n = omega arith in rw e at (sym h)

at_step : (g : ℕ → Bool) (n i : ℕ) → g n && all_up_to n g ≡ true → (i < n → all_up_to n g ≡ true → g i ≡ true) → i < suc n → g i ≡ true
at_step g n i h ih l = let b = and_both (g n) (all_up_to n g) h in go b (ℕ_discrete i n)
  where
    go : (g n ≡ true) × (all_up_to n g ≡ true) → Dec (i ≡ n) → g i ≡ true
    go b (yes e) = rw e b.0
    go b (no d) = ih (omega arith) b.1

-- what all pass, each passes
pub all_at : (g : ℕ → Bool) (n i : ℕ) → i < n → all_up_to n g ≡ true → g i ≡ true
unfolding all_up_to
all_at g zero i l h = absurd (not-suc-le-zero l)
all_at g (suc n) i l h = at_step g n i h (all_at g n i) l

-- a row inside a table
pub row_inside : (i n p : ℕ) → i < n → i * p + p ≤ n * p
row_inside i n p h = let m = mul-le-mul_right p h in omega (arith, m)

-- what each passes, all pass
pub all_from : (g : ℕ → Bool) (n : ℕ) → ((i : ℕ) → i < n → g i ≡ true) → all_up_to n g ≡ true
unfolding all_up_to
all_from g zero f = refl
all_from g (suc n) f = rw (f n (omega arith), all_from g n (λ i l. f i (omega arith)))

-- the same tests
pub all_same : (f g : ℕ → Bool) (n : ℕ) → ((i : ℕ) → i < n → f i ≡ g i) → all_up_to n f ≡ all_up_to n g
unfolding all_up_to
all_same f g zero e = refl
all_same f g (suc n) e = rw (e n (omega arith), all_same f g n (λ i l. e i (omega arith)))
