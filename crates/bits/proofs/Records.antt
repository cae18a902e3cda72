-- Records one behind the other: widths, numbers and bits of lists in a row. It stands on the definitions of the format.
use mathlib.Core.Path.{◌≡◌, ◌∙◌, refl, ap, sym}
use mathlib.Core.Bool.{◌&&◌, and_assoc}
use mathlib.Core.List.{List, [], ◌∷◌, ◌++◌, append_assoc, append-nil}
use Prim.Native.Nat.{ℕ, zero, suc, ◌+◌, ◌*◌, ◌≤◌, ◌<◌}
use native.Mathlib.Nat.{add-zero, add_assoc, mul-le-mul_left}
use native.Mathlib.Omega.{arith}
use lib.ListN.{length, take, drop, length-append}
use lib.Seq.{take_at, drop-append-add}
use Rattle.bits.specs.Layout.{total, records, numbers_at, fits, packed_bits}
use Rattle.bits.proofs.Numbers.{numbers_length}

-- of so many records, each as long as the others, the i-th ends by the end of the last
pub record_inside : (size i count : ℕ) → i < count → size * i + size ≤ size * count
record_inside size i count l = omega (arith, mul-le-mul_left size l)

pub total_append : (a b : List ℕ) → total (a ++ b) ≡ total a + total b
total_append [] b = omega arith
total_append (v ∷ a) b = rw (total_append a b) (omega arith)

module _ (vs : List ℕ) where
  pub records_suc : (m : ℕ) → records (suc m) vs ≡ vs ++ records m vs
  unfolding records
  records_suc m = refl

  -- one record more, at the end
  pub records_last : (m : ℕ) → records (suc m) vs ≡ records m vs ++ vs
  unfolding records
  records_last zero = append-nil vs
  records_last (suc m) = ap (λ (l : List ℕ). vs ++ l) (records_last m) ∙ sym (append_assoc vs (records m vs) vs)

  pub total_records : (m : ℕ) → total (records m vs) ≡ total vs * m
  unfolding records
  total_records zero = omega arith
  total_records (suc m) = rw (total_append vs (records m vs), total_records m) (omega arith)

  pub length_records : (m : ℕ) → length (records m vs) ≡ length vs * m
  unfolding records
  length_records zero = omega arith
  length_records (suc m) = rw (length-append, length_records m) (omega arith)

pub numbers_append : (a b s : List ℕ) (at : ℕ) → numbers_at (a ++ b) s at ≡ numbers_at a s at ++ numbers_at b s (at + total a)
numbers_append [] b s at = rw add-zero
numbers_append (v ∷ a) b s at = rw (numbers_append a b s (at + v), add_assoc)

-- the i-th of m records, of which each has as many numbers as fields
pub record_at : (vs s : List ℕ) (m i at : ℕ) → i < m
    → take (length vs) (drop (length vs * i) (numbers_at (records m vs) s at)) ≡ numbers_at vs s (at + total vs * i)
record_at vs s zero i at h = absurd (omega arith)
record_at vs s (suc m) zero at h =
    let z : length vs * 0 ≡ 0 = omega arith in
    let y : at + total vs * 0 ≡ at = omega arith in
    rw (records_suc, numbers_append, z, y) (take_at (numbers_at vs s at) _ (length vs) (numbers_length vs s at))
record_at vs s (suc m) (suc i) at h =
    let z : length vs * suc i ≡ length (numbers_at vs s at) + length vs * i = rw numbers_length (omega arith) in
    let y : at + total vs * suc i ≡ at + total vs + total vs * i = omega arith in
    rw (records_suc, numbers_append, z, y, drop-append-add (numbers_at vs s at)) (record_at vs s m i (at + total vs) (omega arith))

module _ (b y : List ℕ) where
  pub packed_append : (a x : List ℕ) → length x ≡ length a → packed_bits (a ++ b) (x ++ y) ≡ packed_bits a x ++ packed_bits b y
  unfolding packed_bits
  packed_append [] [] e = refl
  packed_append [] (z ∷ x) e = absurd (omega arith)
  packed_append (v ∷ a) [] e = absurd (omega arith)
  packed_append (v ∷ a) (z ∷ x) e = rw (packed_append a x (omega arith), append_assoc)

  pub fits_append : (a x : List ℕ) → length x ≡ length a → fits (a ++ b) (x ++ y) ≡ fits a x && fits b y
  unfolding fits
  fits_append [] [] e = refl
  fits_append [] (z ∷ x) e = absurd (omega arith)
  fits_append (v ∷ a) [] e = absurd (omega arith)
  fits_append (v ∷ a) (z ∷ x) e = rw (fits_append a x (omega arith), and_assoc)
