-- A stamped value gives back its value and its number, for every width.
-- It stands on the laws of powers of two.
use mathlib.Core.Path.{◌≡◌}
use Prim.Native.Nat.{ℕ, ◌^◌, ◌<◌}
use native.Mathlib.Nat.{mul-le-mul_right, mod-lt}
use native.Mathlib.Omega.{arith}
use lib.Pow.{high, low, split, pow_pos}
use Rattle.register.specs.Plan.{stamped, value_of, number_of}

module _ (w : ℕ) where
  pub value_stamped : (value number : ℕ) → value < 2 ^ w → value_of w (stamped w value number) ≡ value
  unfolding value_of stamped
  value_stamped value number l = low number w l

  pub number_stamped : (value number : ℕ) → value < 2 ^ w → number_of w (stamped w value number) ≡ number
  unfolding number_of stamped
  number_stamped value number l = high number w l

  pub stamped_back : (p : ℕ) → stamped w (value_of w p) (number_of w p) ≡ p
  unfolding value_of number_of stamped
  stamped_back p = split p w

  -- a higher number is a higher stamped value
  pub stamped_rises : (v x m n : ℕ) → v < 2 ^ w → m < n → stamped w v m < stamped w x n
  unfolding stamped
  stamped_rises v x m n l h = omega (arith, mul-le-mul_right (2 ^ w) h)

  pub value_below : (p : ℕ) → value_of w p < 2 ^ w
  unfolding value_of
  value_below p = mod-lt p (pow_pos w)
