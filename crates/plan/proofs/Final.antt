-- What the final bits are to Check's length and to its last test.
-- It stands on the law of what fills the last unit.
use mathlib.Core.Path.{◌≡◌, ap}
use mathlib.Core.List.{List}
use Prim.Native.Nat.{ℕ, ◌+◌, ◌*◌, ◌-◌, ◌/◌}
use native.Mathlib.Omega.{arith}
use lib.Dec.{eqb, lit≤}
use lib.ListN.{length}
use Rattle.bits.specs.Field.{field_of}
use Rattle.bits.specs.Fill.{fill, bytes_for}
use Rattle.bits.proofs.Filling.{fill_rounds, fill_units}
use Rattle.plan.specs.Header.{Header, bit_length}
use Rattle.plan.specs.Check.{final_bits_zero}

-- a plan's bytes are its bits by eight, rounded up
pub bytes_rounded : (bits : ℕ) → bytes_for bits ≡ (bits + 7) / 8
bytes_rounded bits = fill_rounds 8 bits (lit≤ tt)

-- in a plan of the length that its header implies, the final bits are all that stand behind the delays
pub final_rest : (w : ℕ) (s : List ℕ) (h : Header) → length s ≡ bytes_for (bit_length w h)
    → final_bits_zero w s h ≡ eqb (field_of s (bit_length w h) (8 * length s - bit_length w h)) 0
unfolding final_bits_zero
final_rest w s h e =
    let units = fill_units 8 (bit_length w h) (lit≤ tt) in
    let rest : fill 8 (bit_length w h) ≡ 8 * length s - bit_length w h = omega arith in
    ap (λ (width : ℕ). eqb (field_of s (bit_length w h) width) 0) rest
