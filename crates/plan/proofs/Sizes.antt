-- What a plan that can be played has of sizes: what the code's header functions require.
-- It stands on what Check accepts and on the ranges of the header.
use mathlib.Core.Path.{◌≡◌}
use mathlib.Core.List.{List}
use Prim.Native.Nat.{ℕ, ◌*◌, ◌^◌, ◌≤◌, ◌<◌}
use native.Mathlib.Nat.{mul-le-mul, lt_of_lt_of_le}
use native.Mathlib.Omega.{arith}
use lib.ListN.{length}
use lib.Pow.{pow_mono}
use Rattle.bits.specs.Fill.{bytes_for}
use Rattle.register.proofs.Logic.{T_eq}
use Rattle.plan.specs.Form.{most_width}
use Rattle.plan.specs.Header.{Header, header_of, operation_bits, forgery_bits, moves, parties, delay_count, bit_length}
use Rattle.plan.specs.Limits.{most_delays, most_bits, implied_bytes}
use Rattle.plan.specs.Check.{header_in_range}
use Rattle.plan.specs.Playable.{Playable}
use Rattle.plan.specs.Shape.{Ranged, Sized}
use Rattle.plan.proofs.Laws.{moves_few, table_few}
use Rattle.plan.proofs.Ranges.{ranged_header}
use Rattle.plan.proofs.Accept.{exact}

-- what the values of all operations, and of all forgeries, take
pub width_times : (w m n : ℕ) → w ≤ most_width → m ≤ n → w * m ≤ most_width * n
width_times w m n h g = mul-le-mul {n₂ = most_width} {m₂ = n} h g

-- what all operations, and all forgeries, take of bits
pub operations_few : (bits i : ℕ) → bits ≤ operation_bits most_width → i ≤ 255 → bits * i ≤ operation_bits most_width * 255
operations_few bits i h g = mul-le-mul {n₂ = operation_bits most_width} {m₂ = 255} h g

pub forgeries_few : (bits i : ℕ) → bits ≤ forgery_bits most_width → i ≤ 1024 → bits * i ≤ forgery_bits most_width * 1024
forgeries_few bits i h g = mul-le-mul {n₂ = forgery_bits most_width} {m₂ = 1024} h g

-- a value of no more bits than the code can take
pub narrow_value : (w v : ℕ) → w ≤ most_width → v < 2 ^ w → v < 2 ^ most_width
narrow_value w v l h = lt_of_lt_of_le h (pow_mono l)

few : (w : ℕ) (h : Header) → Ranged h → w ≤ most_width → (moves h ≤ 128) × (bit_length w h ≤ most_bits)
unfolding moves
few w h r l =
    let m = moves_few h.ticks h.period (omega arith) in
    let t = table_few h.ticks (parties h) (omega arith) (omega arith) in
    let o = width_times w h.operations 255 l r.operations_hi in
    let f = width_times w h.forgeries 1024 l r.forgeries_hi in
    (omega arith, omega arith)

-- the most delays
pub delays_few : (h : Header) → Ranged h → delay_count h ≤ most_delays
delays_few h r = table_few h.ticks (parties h) (omega arith) (omega arith)

-- no header in range implies more bytes
pub implied_few : (w : ℕ) (h : Header) → Ranged h → w ≤ most_width → bytes_for (bit_length w h) ≤ implied_bytes
implied_few w h r l = omega (arith, few w h r l)

pub sizes : (w : ℕ) (s : List ℕ) (h : Header) → Ranged h → w ≤ most_width → length s ≡ bytes_for (bit_length w h) → Sized w s h
sizes w s h r l e = let z = few w h r l in record { ranged = r; narrow = l; size = e; moves_hi = z.0; bits_hi = z.1 }

pub playable_sizes : (w : ℕ) (s : List ℕ) → w ≤ most_width → Playable w s → Sized w s (header_of w s)
playable_sizes w s l A =
    let h = header_of w s in
    sizes w s h (ranged_header w s (T_eq (header_in_range h) A.header)) l (exact w s A)
