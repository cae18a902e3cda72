-- The values of operations and forgeries as fields at equal steps, that they lie in the plan, and the forged part lent from its first byte on.
-- It stands on the law of a forgery's value.
use mathlib.Core.Path.{◌≡◌, ap}
use mathlib.Core.Bool.{Bool}
use mathlib.Core.List.{List}
use Prim.Native.Nat.{ℕ, suc, ◌+◌, ◌*◌, ◌/◌, ◌%◌, ◌^◌, ◌≤◌, ◌<◌}
use native.Mathlib.Nat.{mul-le-mul_left}
use native.Mathlib.Omega.{arith}
use lib.{Dec.ltb, ListN.length, ListN.take, ListN.drop}
use Rattle.bits.specs.{Field.field_of, Layout.total, Layout.numbers_at}
use Rattle.bits.proofs.{Laws.field_part, Numbers.numbers_part}
use Rattle.register.specs.{Lists.all_up_to, Plan.value_of}
use Rattle.plan.specs.{Widths.forgery_widths, Parts.operation_of, Parts.forgery_of, Shape.Sized}
use Rattle.plan.specs.Header.{Header, moves, placement_at, key_bits, operation_bits, operation_at, forgery_bits, forgery_at}
use Rattle.plan.proofs.Laws.{all_same}
use Rattle.operations.proofs.Inside.{operation_inside}
use Rattle.carrying.proofs.Values.{forgery_value}

-- is value i of fields at equal steps below the limit
abbrev pub below : List ℕ → ℕ → ℕ → ℕ → ℕ → ℕ → Bool
below s at step width limit i = ltb (field_of s (at + step * i) width) limit

-- the tick, the sender and the receiver of a forgery
abbrev head_bits : ℕ → ℕ
head_bits w = total (take 3 (forgery_widths w))

-- Fields and records of the part from the byte that holds bit `first` are those of the whole.
module _ (s : List ℕ) (first : ℕ) where
  pub part_values : (behind step count w limit : ℕ)
      → all_up_to count (λ i. ltb (field_of (drop (first / 8) s) (first % 8 + behind + step * i) w) limit) ≡ all_up_to count (λ i. ltb (field_of s (first + behind + step * i) w) limit)
  part_values behind step count w limit =
      all_same _ _ count (λ i l.
      let e : 8 * (first / 8) + (first % 8 + behind + step * i) ≡ first + behind + step * i = omega arith in
      rw (field_part s (first / 8) (first % 8 + behind + step * i) w, e))

  pub part_numbers : (ws : List ℕ) → numbers_at ws (drop (first / 8) s) (first % 8) ≡ numbers_at ws s first
  part_numbers ws = let e : 8 * (first / 8) + first % 8 ≡ first = omega arith in rw (numbers_part ws s (first / 8) (first % 8), e)

module _ (w : ℕ) (s : List ℕ) (h : Header) {at step : ℕ} where
  -- an operation's value stands behind its tick and its party
  module _ (begin : at ≡ placement_at w (moves h)) (bits : step ≡ operation_bits w) where
    pub written_values : (limit : ℕ)
        → all_up_to h.operations (λ i. ltb (field_of s (at + key_bits w + step * i) w) limit) ≡ all_up_to h.operations (λ i. ltb (operation_of w s h i).value limit)
    unfolding operation_of
    written_values limit =
        all_same _ _ h.operations (λ i l.
        let e : at + key_bits w + step * i ≡ operation_at w h i + 7 + 3 = rw (begin, bits) (omega arith) in
        ap (λ (from : ℕ). ltb (field_of s from w) limit) e)

    pub written_inside : Sized w s h → (i : ℕ) → i < h.operations → (at + key_bits w + step * i + w ≤ 8 * length s) × (at + key_bits w + step * i < 2 ^ 60)
    written_inside z i l =
        let inside = operation_inside w s h z i l in
        rw (begin, bits) (omega (arith, inside), omega (arith, inside))

  -- and a forgery's behind its tick, sender and receiver
  module _ (begin : at ≡ operation_at w h h.operations) (bits : step ≡ forgery_bits w) where
    pub forged_values : (limit : ℕ)
        → all_up_to h.forgeries (λ i. ltb (field_of s (at + head_bits w + step * i) w) limit) ≡ all_up_to h.forgeries (λ i. ltb (value_of w (forgery_of w s h i).pair) limit)
    forged_values limit =
        all_same _ _ h.forgeries (λ i l.
        let e : at + head_bits w + step * i ≡ forgery_at w h i + 7 + 4 + 5 = rw (begin, bits) (omega arith) in
        rw (forgery_value w s h i) (ap (λ (from : ℕ). ltb (field_of s from w) limit) e))

    pub forged_inside : Sized w s h → (i : ℕ) → i < h.forgeries → (at + head_bits w + step * i + w ≤ 8 * length s) × (at + head_bits w + step * i < 2 ^ 60)
    forged_inside z i l =
        let m = mul-le-mul_left {m = suc i} {n = h.forgeries} w l in
        rw (begin, bits) (omega (arith, m, z), omega (arith, m, z))
