-- Fields and records of pieces in a row, each for every width.
-- It stands on the laws of bit fields.
use mathlib.Core.Path.{◌≡◌, refl}
use mathlib.Core.List.{List, [], ◌∷◌, ◌++◌}
use Prim.Native.Nat.{ℕ, zero, suc, ◌+◌, ◌*◌, ◌≤◌, ◌<◌}
use native.Mathlib.Nat.{add_assoc}
use native.Mathlib.Omega.{arith}
use lib.ListN.{length, get_or}
use Rattle.bits.specs.Field.{field_of}
use Rattle.bits.specs.Layout.{total, numbers_at}
use Rattle.bits.proofs.Joined.{field_left, field_right}

-- pieces of bytes in a row, all of n bytes
module _ {A : Type 0} where
  unfoldable pub joined : (A → List ℕ) → List A → List ℕ
  joined g [] = []
  joined g (x ∷ xs) = g x ++ joined g xs

  module _ (g : A → List ℕ) (n : ℕ) (even : (x : A) → length (g x) ≡ n) where
    -- a field of the i-th piece
    field-joined : (xs : List A) (i : ℕ) (d : A) (at w : ℕ) → i < length xs → at + w ≤ 8 * n
        → field_of (joined g xs) (8 * n * i + at) w ≡ field_of (g (get_or xs i d)) at w
    unfolding joined
    field-joined [] i d at w l h = absurd (omega arith)
    field-joined (x ∷ xs) zero d at w l h =
        let e : 8 * n * 0 + at ≡ at = omega arith in
        rw e (field_left (g x) (joined g xs) at w (omega (arith, even x)))
    field-joined (x ∷ xs) (suc i) d at w l h =
        let e : 8 * n * suc i + at ≡ 8 * length (g x) + (8 * n * i + at) = omega (arith, even x) in
        rw (e, field_right) (field-joined xs i d at w (omega arith) h)

    -- a record of the i-th piece
    pub numbers_joined : (ws : List ℕ) (xs : List A) (i : ℕ) (d : A) (at : ℕ) → i < length xs → at + total ws ≤ 8 * n
        → numbers_at ws (joined g xs) (8 * n * i + at) ≡ numbers_at ws (g (get_or xs i d)) at
    numbers_joined [] xs i d at l h = refl
    numbers_joined (v ∷ vs) xs i d at l h =
        rw (field-joined xs i d at v l (omega arith), add_assoc (8 * n * i) at v, numbers_joined vs xs i d (at + v) l (omega arith))
