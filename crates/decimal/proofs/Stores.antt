-- Laws of bytes stored in a row, whether they fit or not, and of a number's digits stored so.
-- It stands on the laws of digits.
use mathlib.Core.Path.{◌≡◌, refl, sym, ◌∙◌}
use mathlib.Core.List.{List, [], ◌∷◌, ◌++◌}
use Prim.Native.Nat.{ℕ, suc, ◌+◌, ◌/◌, ◌%◌, ◌^◌, ◌≤◌, ◌<◌}
use native.Mathlib.Nat.{lt_of_lt_of_le, zero-add}
use native.Mathlib.Numerals.{add-one}
use native.Mathlib.Omega.{arith}
use lib.Dec.{lit≤}
use lib.ListN.{length, get_or, take, drop, set, length-append}
use lib.Seq.{sets as stored_at, sets-eq, take-suc}
use Rattle.decimal.specs.Decimal.{digit_byte, decimal_of, most_digits}
use Rattle.decimal.specs.Stored.{Stored}
use Rattle.decimal.proofs.Laws.{decimal_one, decimal_more, decimal_length}

-- a row, then a row behind it
stored_append : (l : List ℕ) (at : ℕ) (a b : List ℕ) → stored_at l at (a ++ b) ≡ stored_at (stored_at l at a) (at + length a) b
stored_append l at [] b = let e : at + 0 ≡ at = omega arith in rw e
stored_append l at (x ∷ a) b =
    let e : at + suc (length a) ≡ suc at + length a = omega arith in
    rw e (stored_append (set l at x) (suc at) a b)

pub stored_then : {l a m b o : List ℕ} {at x y : ℕ} → Stored l at a m x → Stored m x b o y → Stored l at (a ++ b) o y
stored_then {l} {a} {m} {b} {o} {at} {x} {y} S U = record {
  next_is = rw length-append (omega (arith, S.next_is, U.next_is));
  bytes_are = U.bytes_are ∙ rw (S.bytes_are, S.next_is) (sym (stored_append l at a b));
}

-- the same bytes, written otherwise
pub stored_as : {l a b o : List ℕ} {at y : ℕ} → a ≡ b → Stored l at a o y → Stored l at b o y
stored_as e S = rw e at S

pub stored_none : (l : List ℕ) (at : ℕ) {y : ℕ} → y ≡ at → Stored l at [] l y
stored_none l at h = record { next_is = omega arith; bytes_are = refl }

-- a row that fits, from the start on
pub stored_first : {l a o : List ℕ} {y : ℕ} → length a ≤ length l → Stored l 0 a o y → o ≡ a ++ drop (length a) l
stored_first {l} {a} h S = S.bytes_are ∙ rw zero-add at (sets-eq a l 0 (omega arith))

-- one byte more of a row
pub stored_more : {l m o : List ℕ} {at i y : ℕ} (bytes : List ℕ) → i < length bytes → Stored l at (take i bytes) m (at + i)
    → Stored m (at + i) (get_or bytes i 0 ∷ []) o y → Stored l at (take (i + 1) bytes) o (at + (i + 1))
stored_more {l} {m} {o} {at} {i} {y} bytes h S U =
    let e : y ≡ at + (i + 1) = omega (arith, U.next_is) in
    rw (add-one i, take-suc bytes i 0 h, ← add-one i, ← e) (stored_then S U)

-- The digits of a number of 64 bits are stored.
module _ {l o : List ℕ} {at y n : ℕ} (fits : n < 2 ^ 64) where
  few : Stored l at (decimal_of n) o y → Stored l at (decimal_of n) o y × (y ≤ at + most_digits)
  few S = (S, omega (arith, S.next_is, decimal_length 19 n (lt_of_lt_of_le fits (lit≤ tt))))

  pub stored_one : n < 10 → Stored l at (digit_byte n ∷ []) o y → Stored l at (decimal_of n) o y × (y ≤ at + most_digits)
  stored_one h S = few (rw (decimal_one n h) S)

  pub stored_digits : {m : List ℕ} {x : ℕ} → 10 ≤ n → Stored l at (decimal_of (n / 10)) m x → Stored m x (digit_byte (n % 10) ∷ []) o y
      → Stored l at (decimal_of n) o y × (y ≤ at + most_digits)
  stored_digits h S U = few (rw (decimal_more n h) (stored_then S U))
