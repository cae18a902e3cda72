-- What Check says of a carried plan (document 02, 'Ten': 'all checks keep numbers and order'), for any two widths of a value.
use Rattle.std.specs.Prelude.{◌≡◌, true, List, ℕ, length}
use Rattle.bits.specs.Fill.{bytes_for}
use Rattle.plan.specs.Header.{Header, header_of, bit_length}
use Rattle.plan.specs.Check.{final_bits_zero, check_of}
use Rattle.carrying.specs.Carrying.{carried_plan, values_fit}

-- as many bytes as the header implies, and zero bits at the end
pub record Whole (w : ℕ) (s : List ℕ) (h : Header) : Type 0 where
  pub size : length s ≡ bytes_for (bit_length w h)
  pub final : final_bits_zero w s h ≡ true

-- The carried plan is accepted exactly where the plan is, and refused by the same number. A plan of another length, or with a final bit
-- set, is refused and not carried.
abbrev pub CheckedAlike : ℕ → ℕ → List ℕ → Type 0
CheckedAlike v w s = values_fit v w s ≡ true → Whole v s (header_of v s) → check_of w (carried_plan v w s) ≡ check_of v s
