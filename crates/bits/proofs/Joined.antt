-- Fields of two byte strings, one behind the other; each for every width.
-- It stands on the laws of bit fields.
use mathlib.Core.Path.{◌≡◌, refl, sym, ◌∙◌}
use mathlib.Core.List.{List, [], ◌∷◌, ◌++◌}
use Prim.Native.Nat.{ℕ, zero, suc, ◌+◌, ◌*◌, ◌/◌, ◌≤◌, ◌<◌}
use native.Mathlib.Omega.{arith}
use lib.ListN.{length, get_or-append}
use lib.Seq.{drop-append_seam}
use Rattle.bits.specs.Field.{bit_of, field_of}
use Rattle.bits.specs.Layout.{total, numbers_at}
use Rattle.bits.proofs.Laws.{field_zero, field_suc, field_part}

bit_left : (a b : List ℕ) (i : ℕ) → i < 8 * length a → bit_of (a ++ b) i ≡ bit_of a i
unfolding bit_of
bit_left a b i h = rw (get_or-append a b 0 (i / 8) (omega arith))

-- a field inside the first of them
pub field_left : (a b : List ℕ) (at w : ℕ) → at + w ≤ 8 * length a → field_of (a ++ b) at w ≡ field_of a at w
field_left a b at zero h = rw (field_zero (a ++ b) at, field_zero a at)
field_left a b at (suc w) h = rw (field_suc (a ++ b) at w, field_suc a at w, field_left a b at w (omega arith), bit_left a b (at + w) (omega arith))

-- a record inside it
pub numbers_left : (vs a b : List ℕ) (at : ℕ) → at + total vs ≤ 8 * length a → numbers_at vs (a ++ b) at ≡ numbers_at vs a at
numbers_left [] a b at h = refl
numbers_left (v ∷ vs) a b at h = rw (field_left a b at v (omega arith), numbers_left vs a b (at + v) (omega arith))

-- a field of the second
pub field_right : (a b : List ℕ) (at w : ℕ) → field_of (a ++ b) (8 * length a + at) w ≡ field_of b at w
field_right a b at w = sym (field_part (a ++ b) (length a) at w) ∙ rw drop-append_seam
