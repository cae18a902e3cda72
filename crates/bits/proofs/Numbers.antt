-- Records, for every list of widths: one read field by field is the same as one taken out of a single number with all its bits, and as one
-- of the part that holds it.
use mathlib.Core.Path.{◌≡◌, refl, ap}
use mathlib.Core.List.{List, [], ◌∷◌}
use Prim.Native.Nat.{ℕ, suc, ◌+◌, ◌*◌}
use lib.ListN.{length, drop}
use native.Mathlib.Nat.{add-zero, zero-add, add_assoc}
use Rattle.bits.specs.Field.{field_of}
use Rattle.bits.specs.Layout.{total, numbers_at, numbers_in}
use Rattle.bits.proofs.Laws.{field_inner, field_part}

-- the record behind the first x bits of the number
behind : (ws s : List ℕ) (at x : ℕ) → numbers_at ws s (at + x) ≡ numbers_in ws (field_of s at (x + total ws))
behind [] s at x = refl
behind (v ∷ vs) s at x = rw (← add_assoc x v (total vs), add_assoc at x v, field_inner s at x v (total vs), behind vs s at (x + v))

pub numbers_in_lem : (ws s : List ℕ) (at : ℕ) → numbers_at ws s at ≡ numbers_in ws (field_of s at (total ws))
numbers_in_lem ws s at = rw (add-zero, zero-add) at (behind ws s at 0)

pub numbers_length : (ws s : List ℕ) (at : ℕ) → length (numbers_at ws s at) ≡ length ws
numbers_length [] s at = refl
numbers_length (v ∷ vs) s at = ap suc (numbers_length vs s (at + v))

-- a record of the part from byte k on is one of the whole
pub numbers_part : (ws s : List ℕ) (k at : ℕ) → numbers_at ws (drop k s) at ≡ numbers_at ws s (8 * k + at)
numbers_part [] s k at = refl
numbers_part (v ∷ vs) s k at = rw (field_part s k at v, numbers_part vs s k (at + v), add_assoc)
