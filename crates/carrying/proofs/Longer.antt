-- How much longer a carried plan is, where a value has eight bits more: a byte for the start value, and one for each operation and each forgery.
-- It stands on the length of a carried plan.
use mathlib.Core.Path.{◌≡◌}
use mathlib.Core.Bool.{true}
use mathlib.Core.List.{List}
use Prim.Native.Nat.{ℕ, ◌+◌, ◌*◌}
use native.Mathlib.Nat.{add-mul}
use native.Mathlib.Omega.{arith}
use lib.ListN.{length}
use Rattle.bits.specs.Fill.{fill, bytes_for}
use Rattle.plan.specs.Header.{Header, header_of, bit_length}
use Rattle.plan.specs.Check.{result, check_of}
use Rattle.plan.proofs.Accept.{playable, exact}
use Rattle.carrying.specs.Carrying.{carried_plan, values_fit}
use Rattle.carrying.proofs.Checked.{carried_whole}

-- what a plan with this header has of values
values : Header → ℕ
values h = 1 + h.operations + h.forgeries

wider_bits : (v : ℕ) (h : Header) → bit_length (v + 8) h ≡ bit_length v h + 8 * values h
unfolding values
wider_bits v h = omega (arith, add-mul v 8 h.operations, add-mul v 8 h.forgeries)

-- as many final bits as before
pub same_fill : (v : ℕ) (h : Header) → fill 8 (bit_length (v + 8) h) ≡ fill 8 (bit_length v h)
same_fill v h = rw (wider_bits v h) (omega arith)

pub carried_longer : (v : ℕ) (s : List ℕ) (m : ℕ) → check_of v s ≡ result m → values_fit v (v + 8) s ≡ true
    → length (carried_plan v (v + 8) s) ≡ length s + (1 + (header_of v s).operations + (header_of v s).forgeries)
unfolding values
carried_longer v s m accepted fit =
    let h = header_of v s in
    let more : bytes_for (bit_length v h + 8 * values h) ≡ bytes_for (bit_length v h) + values h = omega arith in
    rw ((carried_whole v (v + 8) s fit).size, wider_bits v h, exact v s (playable v s m accepted)) more
