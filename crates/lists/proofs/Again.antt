-- A plan read field by field and packed again is itself, for every width of a value.
-- It stands on the laws of packing by lists of widths.
use mathlib.Core.Path.{◌≡◌, ◌∙◌, refl, ap}
use mathlib.Core.List.{List, ◌++◌}
use Prim.Native.Nat.{ℕ, ◌+◌, ◌*◌}
use native.Mathlib.Omega.{arith}
use lib.ListN.{length}
use Rattle.bits.specs.Field.{field_of, Bytes}
use Rattle.bits.specs.Fill.{fill, bytes_for}
use Rattle.bits.specs.Layout.{total, numbers_at, bits_of, packed_bits}
use Rattle.bits.proofs.Packing.{bits_join, packed_numbers, fits_numbers, in_back}
use Rattle.bits.proofs.Records.{total_records}
use Rattle.plan.specs.Widths as widths
use Rattle.plan.specs.Header as header
use Rattle.plan.specs.Header.{Header, header_of, bit_length, moves, delay_count}
use Rattle.lists.specs.Lists as lists
use Rattle.lists.specs.Lists.{listed, lists_of, plan_bits, packed_plan}
use Rattle.lists.proofs.Inverse.{Fit}

module _ (w : ℕ) (s : List ℕ) where
  h : Header
  h = header_of w s

  -- the bits of s from one place on, so many
  cut : ℕ → ℕ → List ℕ
  cut at n = bits_of n (field_of s at n)

  -- those of a part, and of what stands behind it
  joins : (at a b c : ℕ) → at + a ≡ c → cut at a ++ cut c b ≡ cut at (a + b)
  unfolding cut
  joins at a b c e = rw (← e) (bits_join s at a b)

  part : (vs : List ℕ) (at n : ℕ) → total vs ≡ n → packed_bits vs (numbers_at vs s at) ≡ cut at n
  unfolding cut
  part vs at n e = rw (← e) (packed_numbers vs s at)

  pub listed_same : listed (lists_of w s) ≡ header_of w s
  unfolding lists_of header_of
  listed_same = refl

  -- the bits of each part of the plan
  P : ℕ
  P = 16 * moves h

  O : ℕ
  O = header.operation_bits w * h.operations

  F : ℕ
  F = header.forgery_bits w * h.forgeries

  D : ℕ
  D = 4 * delay_count h

  all-bits : plan_bits w (lists_of w s) ≡ cut 0 (header.header_bits w + (P + (O + (F + D))))
  unfolding plan_bits lists_of header_of h P O F D
  all-bits =
      rw (
        part (widths.header_widths w) 0 (header.header_bits w) refl,
        part (lists.placements_widths h) (header.placement_at w 0) P (total_records widths.placement_widths (moves h)),
        part (lists.operations_widths w h) (header.operation_at w h 0) O (total_records (widths.operation_widths w) h.operations),
        part (lists.forgeries_widths w h) (header.forgery_at w h 0) F (total_records (widths.forgery_widths w) h.forgeries),
        part (lists.delays_widths h) (header.delay_at w h 0 0 0) D (total_records widths.delay_widths (delay_count h)),
        joins (header.forgery_at w h 0) F D (header.delay_at w h 0 0 0) (omega arith),
        joins (header.operation_at w h 0) O (F + D) (header.forgery_at w h 0) (omega arith),
        joins (header.placement_at w 0) P (O + (F + D)) (header.operation_at w h 0) (omega arith),
        joins 0 (header.header_bits w) (P + (O + (F + D))) (header.placement_at w 0) (omega arith),
      )

  bits_same : plan_bits w (lists_of w s) ≡ cut 0 (bit_length w h)
  unfolding P O F D
  bits_same = all-bits ∙ ap (cut 0) (omega arith)

  -- 'each accepted plan is the .. packing of its lists': the bytes are those that the header implies, and the final bits are zero
  pub plan_again : Bytes s → length s ≡ bytes_for (bit_length w (header_of w s)) → field_of s (bit_length w (header_of w s)) (fill 8 (bit_length w (header_of w s))) ≡ 0
      → packed_plan w (lists_of w s) ≡ s
  unfolding packed_plan cut h
  plan_again bytes size final = rw bits_same (in_back s (bit_length w h) bytes size final)

  pub lists_fit : Fit w (lists_of w s)
  unfolding lists_of header_of
  lists_fit = record {
    header = fits_numbers (widths.header_widths w) s 0;
    placements = fits_numbers _ s _;
    operations = fits_numbers _ s _;
    forgeries = fits_numbers _ s _;
    delays = fits_numbers _ s _;
  }
