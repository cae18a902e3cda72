-- Laws of sets kept as the bits of a number: union, intersection, shifts, the set of one number, and the size of a set. They stand on the library's laws of
-- binary digits.
use mathlib.Core.Path.{◌≡◌, refl, sym, ap, subst, ◌∙◌}
use mathlib.Core.Bool.{Bool, false, ◌&&◌, ◌||◌}
use Prim.Native.Nat.{ℕ, zero, suc, ◌+◌, ◌/◌, ◌%◌, ◌^◌, ◌≤◌, ◌<◌}
use native.Mathlib.Nat.{zero-add, add-zero, suc-add, mul_comm, pow-suc, div-div-eq-div-mul}
use native.Mathlib.Omega.{arith}
use native.Mathlib.Decide.{dec_le}
use lib.Dec.{eqb, ltb, eqb-zero-suc, eqb-suc-zero, eqb-suc-suc}
use borrow.Author.Tests.{lt-ltb, le-ltb}
use lib.Bits.{bit_and, bit_or, and_shr, and_mod, or_shr, or_mod}
use lib.Count.{ones, ones_step}
use Rattle.register.specs.Lists.{count}
use Rattle.register.proofs.Counting.{digit_one, count_low, count_cong}
use Rattle.limits.specs.Bits.{bit}

-- what holds of all pairs of binary digits
pub by_digits : (Q : ℕ → ℕ → Type 0) → Q 0 0 → Q 0 1 → Q 1 0 → Q 1 1 → (x y : ℕ) → x < 2 → y < 2 → Q x y
by_digits Q a b c d zero zero h g = a
by_digits Q a b c d zero (suc zero) h g = b
by_digits Q a b c d (suc zero) zero h g = c
by_digits Q a b c d (suc zero) (suc zero) h g = d
by_digits Q a b c d zero (suc (suc y)) h g = absurd (omega arith)
by_digits Q a b c d (suc zero) (suc (suc y)) h g = absurd (omega arith)
by_digits Q a b c d (suc (suc x)) y h g = absurd (omega arith)

-- union
pub bit_or_lem : (k a b : ℕ) → bit k (bit_or a b) ≡ bit k a || bit k b
unfolding bit
bit_or_lem zero a b = rw (or_mod a b 1) (by_digits (λ x y. eqb (bit_or x y) 1 ≡ eqb x 1 || eqb y 1) refl refl refl refl (a % 2) (b % 2) (omega arith) (omega arith))
bit_or_lem (suc k) a b = rw (or_shr a b 1) (bit_or_lem k (a / 2) (b / 2))

pub bit_zero : (k : ℕ) → bit k 0 ≡ false
unfolding bit
bit_zero zero = refl
bit_zero (suc k) = bit_zero k

-- the set of one number
pub bit_pow : (k i : ℕ) → bit k (2 ^ i) ≡ eqb k i
unfolding bit
bit_pow zero zero = refl
bit_pow zero (suc i) = let e : 2 ^ suc i % 2 ≡ 0 = omega (arith, pow-suc 2 i) in rw (e, eqb-zero-suc i)
bit_pow (suc k) zero = bit_zero k ∙ sym (eqb-suc-zero k)
bit_pow (suc k) (suc i) = let e : 2 ^ suc i / 2 ≡ 2 ^ i = omega (arith, pow-suc 2 i) in rw (e, eqb-suc-suc k i) (bit_pow k i)

-- intersection
pub bit_and_lem : (k a b : ℕ) → bit k (bit_and a b) ≡ bit k a && bit k b
unfolding bit
bit_and_lem zero a b = rw (and_mod a b 1) (by_digits (λ x y. eqb (bit_and x y) 1 ≡ eqb x 1 && eqb y 1) refl refl refl refl (a % 2) (b % 2) (omega arith) (omega arith))
bit_and_lem (suc k) a b = rw (and_shr a b 1) (bit_and_lem k (a / 2) (b / 2))

-- a shift right moves the bits
pub bit_shift : (k i m : ℕ) → bit k (m / 2 ^ i) ≡ bit (i + k) m
unfolding bit
bit_shift k zero m = let e : m / 2 ^ 0 ≡ m = omega arith in rw (e, zero-add k)
bit_shift k (suc i) m =
    let e : m / 2 ^ suc i ≡ m / 2 / 2 ^ i = rw (pow-suc 2 i, mul_comm (2 ^ i) 2) (sym (div-div-eq-div-mul m 2 (2 ^ i))) in
    rw (e, suc-add i k) (bit_shift k i (m / 2))

-- the code's test of one bit
pub bit_test : (x m : ℕ) → eqb (m / 2 ^ x % 2) 1 ≡ bit x m
unfolding bit
bit_test x m = bit_shift 0 x m ∙ ap (λ (k : ℕ). bit k m) (add-zero x)

-- the machine's count of ones is the size of the set
pub ones_count : (k m : ℕ) → m < 2 ^ k → ones m ≡ count (λ i. bit i m) k
unfolding ones bit count
ones_count zero m h = let e : m ≡ 0 = omega arith in rw e refl
ones_count (suc k) m h =
    ones_step m
    ∙ (rw (ones_count k (m / 2) (omega (arith, pow-suc 2 k)), ← digit_one (m % 2) (omega arith)) refl ∙ sym (count_low (λ i. bit i m) k))

-- members past n do not count
pub count_cut : (p : ℕ → Bool) (n k : ℕ) → n ≤ k → count (λ i. ltb i n && p i) k ≡ count p n
unfolding count
count_cut p n zero h = let e : n ≡ 0 = omega arith in rw e
count_cut p n (suc k) h = elim (dec_le n k) [
  | yes l ↦ rw (le-ltb k n l) (omega (arith, count_cut p n k l))
  | no l ↦ (let e : n ≡ suc k = omega arith in subst (λ (m : ℕ). count (λ i. ltb i m && p i) (suc k) ≡ count p m) (sym e) (count_cong (λ i. ltb i (suc k) && p i) p (suc k) (λ i w. rw (lt-ltb i (suc k) w))))
]
