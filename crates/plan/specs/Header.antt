-- The header of a packed plan and where the parts behind it stand (document 01, 'The plan, packed').
use Rattle.std.specs.Prelude.{List, ℕ, ◌+◌, ◌*◌, ◌-◌, ◌/◌, ◌≤◌, length, get_or, take}
use Rattle.bits.specs.Layout.{total, numbers_at}
use Rattle.register.specs.Plan.{k_of}
use Rattle.plan.specs.Widths.{header_widths, placement_widths, operation_widths, forgery_widths, delay_widths}

pub record Header : Type 0 where
  pub n : ℕ
  pub f : ℕ
  pub delta : ℕ
  pub period : ℕ
  pub readers : ℕ
  pub ticks : ℕ
  pub initial : ℕ
  pub operations : ℕ
  pub forgeries : ℕ
  pub zero_bit : ℕ

-- the header whose fields, in packed order, are these numbers
abbrev pub header_from : List ℕ → Header
header_from xs = record {
  n = get_or xs 0 0;
  f = get_or xs 1 0;
  delta = get_or xs 2 0;
  period = get_or xs 3 0;
  readers = get_or xs 4 0;
  ticks = get_or xs 5 0;
  initial = get_or xs 6 0;
  operations = get_or xs 7 0;
  forgeries = get_or xs 8 0;
  zero_bit = get_or xs 9 0;
}

unfoldable pub header_of : ℕ → List ℕ → Header
header_of w s = header_from (numbers_at (header_widths w) s 0)

abbrev pub header_bits : ℕ → ℕ
header_bits w = total (header_widths w)

abbrev pub placement_bits : ℕ
placement_bits = total placement_widths

abbrev pub operation_bits : ℕ → ℕ
operation_bits w = total (operation_widths w)

-- the tick and the party of an operation, by which operations rise
abbrev pub key_bits : ℕ → ℕ
key_bits w = total (take 2 (operation_widths w))

abbrev pub forgery_bits : ℕ → ℕ
forgery_bits w = total (forgery_widths w)

abbrev pub delay_bits : ℕ
delay_bits = total delay_widths

-- 'for each move below H': ticks 0, Δ, 2Δ ..
unfoldable pub moves : Header → ℕ
moves h = (h.ticks + (h.period - 1)) / h.period

-- Parties are the servers, then the writer, then the readers.
abbrev pub parties : Header → ℕ
parties h = h.n + 1 + h.readers

-- the first bit of placement i, operation i, forgery i
abbrev pub placement_at : ℕ → ℕ → ℕ
placement_at w i = header_bits w + placement_bits * i

-- how many delays there are: one 'for each tick, sender and receiver'
abbrev pub delay_count : Header → ℕ
delay_count h = h.ticks * (parties h * parties h)

-- of the delay of tick t from party i to party j, where the delays of so many parties begin at bit `at`: 'for each tick, sender and
-- receiver in that order'
abbrev pub link_at : ℕ → ℕ → ℕ → ℕ → ℕ → ℕ
link_at at p t i j = at + delay_bits * ((t * p + i) * p + j)

-- so many delays, from bit `at` on, lie in the plan
abbrev pub DelaysIn : List ℕ → ℕ → ℕ → Type 0
DelaysIn s at m = at + delay_bits * m ≤ 8 * length s

module _ (w : ℕ) (h : Header) where
  abbrev pub operation_at : ℕ → ℕ
  operation_at i = placement_at w (moves h) + operation_bits w * i

  abbrev pub forgery_at : ℕ → ℕ
  forgery_at i = operation_at h.operations + forgery_bits w * i

  -- of the delay of tick t from party i to party j
  abbrev pub delay_at : ℕ → ℕ → ℕ → ℕ
  delay_at t i j = link_at (forgery_at h.forgeries) (parties h) t i j

  -- all bits before the final zero bits
  abbrev pub bit_length : ℕ
  bit_length = forgery_at h.forgeries + delay_bits * delay_count h

-- k of a header
abbrev pub k_in : Header → ℕ
k_in h = k_of h.delta h.period
