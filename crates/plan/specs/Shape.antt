-- The code's header by value as the header of the definitions, and what refusals 1 to 4 leave of a plan.
use Rattle.std.specs.Prelude.{◌≡◌, List, ℕ, ◌≤◌, length}
use Rattle.bits.specs.Fill.{bytes_for}
use Rattle.plan.specs.Form.{most_width}
use Rattle.plan.specs.Limits.{most_bits}
use Rattle.plan.specs.declared.header.Shape.{Shape}
use Rattle.plan.specs.Header.{Header, moves, bit_length}

abbrev pub shape : Shape → Header
shape x = record {
  n = x.n;
  f = x.f;
  delta = x.delta;
  period = x.period;
  readers = x.readers;
  ticks = x.ticks;
  initial = x.initial;
  operations = x.operations;
  forgeries = x.forgeries;
  zero_bit = x.zero;
}

-- a header in range, as inequalities
pub record Ranged (h : Header) : Type 0 where
  pub n_lo : 1 ≤ h.n
  pub n_hi : h.n ≤ 16
  pub delta_lo : 1 ≤ h.delta
  pub delta_hi : h.delta ≤ 15
  pub period_lo : h.delta ≤ h.period
  pub period_hi : h.period ≤ 63
  pub readers_lo : 1 ≤ h.readers
  pub readers_hi : h.readers ≤ 4
  pub ticks_lo : 1 ≤ h.ticks
  pub ticks_hi : h.ticks ≤ 128
  pub operations_hi : h.operations ≤ 255
  pub forgeries_hi : h.forgeries ≤ 1024
  pub zero_bit_zero : h.zero_bit ≡ 0

-- a header in range, as many bytes as it implies with values of w bits, and what follows for sizes
pub record Sized (w : ℕ) (s : List ℕ) (h : Header) : Type 0 where
  pub ranged : Ranged h
  pub narrow : w ≤ most_width
  pub size : length s ≡ bytes_for (bit_length w h)
  pub moves_hi : moves h ≤ 128
  pub bits_hi : bit_length w h ≤ most_bits
