-- What the engine asks of a plan: Check without refusal 3. The bound on n is asked by point 3 alone.
use Rattle.std.specs.Prelude.{◌&&◌, List, ℕ, T, leb, eqb, length}
use Rattle.bits.specs.Fill.{bytes_for}
use Rattle.plan.specs.Header.{header_of, header_bits, bit_length}
use Rattle.plan.specs.Check.{header_in_range, placements_stand, operations_stand, forgeries_stand, delays_stand, final_bits_zero}

-- the tests 1, 2 and 4 to 8 of Check, in order
pub record Playable (w : ℕ) (s : List ℕ) : Type 0 where
  pub long : T (leb (bytes_for (header_bits w)) (length s))
  pub header : T (header_in_range (header_of w s))
  pub size : T (eqb (length s) (bytes_for (bit_length w (header_of w s))))
  pub placements : T (placements_stand w s (header_of w s))
  pub operations : T (operations_stand w s (header_of w s))
  pub forgeries : T (forgeries_stand w s (header_of w s))
  pub delays : T (delays_stand w s (header_of w s) && final_bits_zero w s (header_of w s))
