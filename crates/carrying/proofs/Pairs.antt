-- A stamped value in the other form: where the other form is no narrower, value and number are kept and the order is the same.
-- It stands on the laws of stamped values.
use mathlib.Core.Path.{◌≡◌}
use Prim.Native.Nat.{ℕ, ◌^◌, ◌≤◌, ◌<◌}
use native.Mathlib.Nat.{lt_of_lt_of_le, zero-div, zero-mod}
use native.Mathlib.Omega.{arith}
use lib.Pow.{pow_mono}
use Rattle.register.specs.Plan.{stamped, value_of, number_of}
use Rattle.register.proofs.Stamped.{value_stamped, number_stamped, value_below, stamped_back}
use Rattle.renaming.specs.Renaming.{Rising}
use Rattle.carrying.specs.Carrying.{carried_pair}
use Rattle.carrying.proofs.Order.{before_lt, lt_before}

module _ (v w : ℕ) where
  pub pair_carried : (value number : ℕ) → value < 2 ^ v → carried_pair v w (stamped v value number) ≡ stamped w value number
  unfolding carried_pair
  pair_carried value number l = rw (value_stamped v value number l, number_stamped v value number l)

  pub zero_kept : carried_pair v w 0 ≡ 0
  unfolding carried_pair stamped value_of number_of
  zero_kept = rw (zero-mod, zero-div) (omega arith)

  parts-lt : (p q : ℕ) → p < q → stamped v (value_of v p) (number_of v p) < stamped v (value_of v q) (number_of v q)
  parts-lt p q l = rw (stamped_back v p, stamped_back v q) l

  module _ (wide : v ≤ w) where
    fits : (p : ℕ) → value_of v p < 2 ^ w
    fits p = lt_of_lt_of_le (value_below v p) (pow_mono wide)

    pub value_kept : (p : ℕ) → value_of w (carried_pair v w p) ≡ value_of v p
    unfolding carried_pair
    value_kept p = value_stamped w (value_of v p) (number_of v p) (fits p)

    pub number_kept : (p : ℕ) → number_of w (carried_pair v w p) ≡ number_of v p
    unfolding carried_pair
    number_kept p = number_stamped w (value_of v p) (number_of v p) (fits p)

    -- by number, then by value
    pub pairs_rise : Rising (carried_pair v w)
    unfolding carried_pair stamped
    pairs_rise p q l =
        let lower = lt_before (2 ^ v) (number_of v p) (value_of v p) (number_of v q) (value_of v q) (value_below v q) (parts-lt p q l) in
        before_lt (2 ^ w) (number_of v p) (value_of v p) (number_of v q) (value_of v q) (fits p) lower
