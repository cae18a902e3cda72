-- A record that is gone over, field by field: the widths before a field, and the field itself.
use mathlib.Core.Path.{◌≡◌, sym, ap}
use mathlib.Core.List.{List, [], ◌∷◌}
use Prim.Native.Nat.{ℕ, zero, suc, ◌+◌, ◌≤◌, ◌<◌}
use native.Mathlib.Nat.{add-zero, add_assoc}
use native.Mathlib.Omega.{arith}
use lib.Dec.{T, leb, leb→le}
use lib.ListN.{length, get_or, take, drop, get_or-eq_default, take-append-drop}
use lib.Seq.{take-suc}
use Rattle.register.proofs.Logic.{and_l, and_r}
use Rattle.bits.specs.Field.{field_of}
use Rattle.bits.specs.Layout.{total, numbers_at}
use Rattle.bits.proofs.Numbers.{numbers_length}
use Rattle.bits.proofs.Records.{total_append}
use Rattle.records.specs.Records.{no_wider}

-- no field is wider, so each is not
pub narrow_at : (most : ℕ) (vs : List ℕ) (j : ℕ) → T (no_wider most vs) → j < length vs → get_or vs j 0 ≤ most
unfolding no_wider
narrow_at most [] j h l = absurd (omega arith)
narrow_at most (v ∷ vs) zero h l = leb→le v most (and_l (leb v most) (no_wider most vs) h)
narrow_at most (v ∷ vs) (suc j) h l = narrow_at most vs j (and_r (leb v most) (no_wider most vs) h) (omega arith)

-- the bits of the fields before one, and its own
module _ (vs : List ℕ) (j : ℕ) (l : j < length vs) where
  pub total_next : total (take (suc j) vs) ≡ total (take j vs) + get_or vs j 0
  total_next = rw (take-suc vs j 0 l, total_append) (omega arith)

  pub total_inside : total (take j vs) + get_or vs j 0 ≤ total vs
  total_inside = omega (arith, total_next, total_append (take (suc j) vs) (drop (suc j) vs), ap total (take-append-drop (suc j) vs))

-- a field stands behind those before it
pub number_behind : (vs s : List ℕ) (at i : ℕ) → i < length vs → field_of s (at + total (take i vs)) (get_or vs i 0) ≡ get_or (numbers_at vs s at) i 0
number_behind [] s at i l = absurd (omega arith)
number_behind (v ∷ vs) s at zero l = rw add-zero
number_behind (v ∷ vs) s at (suc i) l = rw (← add_assoc) (number_behind vs s (at + v) i (omega arith))

-- there is none
pub no_number : (vs s : List ℕ) (at i : ℕ) → length vs ≤ i → 0 ≡ get_or (numbers_at vs s at) i 0
no_number vs s at i l =
    let h : length (numbers_at vs s at) ≤ i = rw (numbers_length vs s at) l in
    sym (get_or-eq_default (numbers_at vs s at) 0 h)
