-- The ones of a field, counted: what a placement's test asks, and what the machine counts.
-- It stands on the laws of bit fields.
use mathlib.Core.Path.{◌≡◌, ap}
use mathlib.Core.List.{List}
use Prim.Native.Nat.{ℕ, zero, suc, ◌+◌, ◌*◌, ◌/◌, ◌%◌}
use native.Mathlib.Omega.{arith}
use lib.Dec.{eqb}
use lib.Count.{ones, ones_in, ones_step}
use Rattle.bits.specs.Field.{bit_of, field_of}
use Rattle.bits.proofs.Laws.{bit_lt, field_zero, field_suc, field_one}
use Rattle.register.specs.Lists.{count}
use Rattle.register.proofs.Counting.{digit_one}

module _ (s : List ℕ) (at : ℕ) where
  pub ones_field : (n : ℕ) → ones (field_of s at n) ≡ count (λ b. eqb (field_of s (at + b) 1) 1) n
  unfolding count ones ones_in
  ones_field zero = rw field_zero
  ones_field (suc n) =
      let b = bit_of s (at + n) in
      let l = bit_lt s (at + n) in
      let m : (field_of s at n * 2 + b) % 2 ≡ b = omega arith in
      let d : (field_of s at n * 2 + b) / 2 ≡ field_of s at n = omega arith in
      rw (field_suc, ones_step, m, d, ones_field n, field_one) (ap (λ (x : ℕ). x + count (λ b. eqb (field_of s (at + b) 1) 1) n) (digit_one b l))
