-- Lists packed and read back, and a plan read and packed again, for every width of a value.
-- It stands on the laws of packing by lists of widths.
use mathlib.Core.Path.{◌≡◌, ◌∙◌, refl, ap, sym}
use mathlib.Core.Bool.{true}
use mathlib.Core.List.{List, [], ◌++◌, append_assoc, append-nil}
use Prim.Native.Nat.{ℕ, ◌*◌}
use native.Mathlib.Omega.{arith}
use lib.Dec.{lit<}
use lib.ListN.{length, length-append}
use Rattle.bits.specs.Fill.{bytes_for}
use Rattle.bits.specs.Layout.{total, records, numbers_at, fits, packed_bits}
use Rattle.bits.proofs.Packing as packing
use Rattle.bits.proofs.Packing.{Small}
use Rattle.bits.proofs.Records as record-laws
use Rattle.plan.specs.Widths as widths
use Rattle.plan.specs.Header as header
use Rattle.plan.specs.Header.{header_of, bit_length, moves, delay_count}
use Rattle.lists.specs.Lists.{Lists, Full, listed, lists_of, plan_bits, packed_plan, placements_widths, operations_widths, forgeries_widths, delays_widths}

-- every number fits its field, and there is one for each
pub record Fit (w : ℕ) (l : Lists) : Type 0 where
  pub header : fits (widths.header_widths w) l.header ≡ true
  pub placements : fits (placements_widths (listed l)) l.placements ≡ true
  pub operations : fits (operations_widths w (listed l)) l.operations ≡ true
  pub forgeries : fits (forgeries_widths w (listed l)) l.forgeries ≡ true
  pub delays : fits (delays_widths (listed l)) l.delays ≡ true

-- so many records that fit have a number for each field, and so many bits
records_full : (m : ℕ) (vs xs : List ℕ) → fits (records m vs) xs ≡ true → length xs ≡ length vs * m
records_full m vs xs f = packing.fits_length (records m vs) xs f ∙ record-laws.length_records vs m

pub fit_full : (w : ℕ) (l : Lists) → Fit w l → Full w (listed l) l
fit_full w l f = record {
  placements = records_full (moves (listed l)) widths.placement_widths l.placements f.placements;
  operations = records_full (listed l).operations (widths.operation_widths w) l.operations f.operations;
  forgeries = records_full (listed l).forgeries (widths.forgery_widths w) l.forgeries f.forgeries;
  delays = records_full (delay_count (listed l)) widths.delay_widths l.delays f.delays;
}

records_total : (m : ℕ) (vs xs : List ℕ) → length xs ≡ length vs * m → length (packed_bits (records m vs) xs) ≡ total vs * m
records_total m vs xs e = packing.packed_length (records m vs) xs (e ∙ sym (record-laws.length_records vs m)) ∙ record-laws.total_records vs m

module _ (w : ℕ) (l : Lists) where
  -- the bits of each part
  abbrev pub H : List ℕ
  H = packed_bits (widths.header_widths w) l.header

  abbrev pub P : List ℕ
  P = packed_bits (placements_widths (listed l)) l.placements

  abbrev pub O : List ℕ
  O = packed_bits (operations_widths w (listed l)) l.operations

  abbrev pub F : List ℕ
  F = packed_bits (forgeries_widths w (listed l)) l.forgeries

  abbrev pub D : List ℕ
  D = packed_bits (delays_widths (listed l)) l.delays

  small-H : Small H
  small-H = packing.packed_small (widths.header_widths w) l.header

  small-P : Small P
  small-P = packing.packed_small (placements_widths (listed l)) l.placements

  small-O : Small O
  small-O = packing.packed_small (operations_widths w (listed l)) l.operations

  small-F : Small F
  small-F = packing.packed_small (forgeries_widths w (listed l)) l.forgeries

  small-D : Small D
  small-D = packing.packed_small (delays_widths (listed l)) l.delays

  -- what stands behind the operations, the placements, the header; what stands before the operations, the forgeries, the delays
  small-FD : Small (F ++ D)
  small-FD = packing.small_append F D small-F small-D

  small-OFD : Small (O ++ (F ++ D))
  small-OFD = packing.small_append O (F ++ D) small-O small-FD

  small-POFD : Small (P ++ (O ++ (F ++ D)))
  small-POFD = packing.small_append P (O ++ (F ++ D)) small-P small-OFD

  small-HP : Small (H ++ P)
  small-HP = packing.small_append H P small-H small-P

  small-HPO : Small ((H ++ P) ++ O)
  small-HPO = packing.small_append (H ++ P) O small-HP small-O

  small-HPOF : Small (((H ++ P) ++ O) ++ F)
  small-HPOF = packing.small_append ((H ++ P) ++ O) F small-HPO small-F

  pub plan_small : Small (plan_bits w l)
  unfolding plan_bits
  plan_small = packing.small_append H (P ++ (O ++ (F ++ D))) small-H small-POFD

  -- the fields of one part, between those before and behind it
  part_back : (vs xs before behind : List ℕ) (at : ℕ) → fits vs xs ≡ true → Small before → Small behind
      → before ++ (packed_bits vs xs ++ behind) ≡ plan_bits w l → length before ≡ at → numbers_at vs (packed_plan w l) at ≡ xs
  unfolding packed_plan
  part_back vs xs before behind at f a b e place = rw (← e, ← place) (packing.numbers_packed vs xs before behind f a b)

  -- the header of a packed plan is the one listed, whatever the other lists are
  pub header_back : fits (widths.header_widths w) l.header ≡ true → numbers_at (widths.header_widths w) (packed_plan w l) 0 ≡ l.header
  unfolding plan_bits
  header_back f =
      part_back (widths.header_widths w) l.header [] (P ++ (O ++ (F ++ D))) 0 f (λ i. lit< tt) small-POFD refl refl

  pub header_same : fits (widths.header_widths w) l.header ≡ true → header_of w (packed_plan w l) ≡ listed l
  unfolding header_of
  header_same f = ap header.header_from (header_back f)

  -- the same bits, joined from the left
  three : (X : List ℕ) → ((H ++ P) ++ O) ++ X ≡ H ++ (P ++ (O ++ X))
  three X = append_assoc (H ++ P) O X ∙ append_assoc H P (O ++ X)

  module _ (fit : fits (widths.header_widths w) l.header ≡ true) (full : Full w (listed l) l) where
    -- where each part ends
    pub end_H : length H ≡ header.header_bits w
    end_H = packing.packed_length (widths.header_widths w) l.header (packing.fits_length (widths.header_widths w) l.header fit)

    pub end_P : length (H ++ P) ≡ header.placement_at w (moves (listed l))
    end_P = length-append H P ∙ rw (end_H, records_total (moves (listed l)) widths.placement_widths l.placements full.placements)

    pub end_O : length ((H ++ P) ++ O) ≡ header.operation_at w (listed l) (listed l).operations
    end_O = length-append (H ++ P) O ∙ rw (end_P, records_total (listed l).operations (widths.operation_widths w) l.operations full.operations)

    pub end_F : length (((H ++ P) ++ O) ++ F) ≡ header.forgery_at w (listed l) (listed l).forgeries
    end_F = length-append ((H ++ P) ++ O) F ∙ rw (end_O, records_total (listed l).forgeries (widths.forgery_widths w) l.forgeries full.forgeries)

    end-D : length ((((H ++ P) ++ O) ++ F) ++ D) ≡ bit_length w (listed l)
    end-D = length-append (((H ++ P) ++ O) ++ F) D ∙ rw (end_F, records_total (delay_count (listed l)) widths.delay_widths l.delays full.delays)

    pub left_same : (((H ++ P) ++ O) ++ F) ++ D ≡ plan_bits w l
    unfolding plan_bits
    left_same = append_assoc ((H ++ P) ++ O) F D ∙ three (F ++ D)

    pub plan_length : length (plan_bits w l) ≡ bit_length w (listed l)
    plan_length = ap length (sym left_same) ∙ end-D

    pub plan_bytes : length (packed_plan w l) ≡ bytes_for (bit_length w (listed l))
    unfolding packed_plan
    plan_bytes = packing.in_length (plan_bits w l) plan_small ∙ ap bytes_for plan_length

    -- Where the numbers of a part fit, its fields in the packed plan are its list's, whatever the other lists hold: so a part's test of the
    -- plan is a test of its list.
    pub placements_back : fits (placements_widths (listed l)) l.placements ≡ true
        → numbers_at (placements_widths (listed l)) (packed_plan w l) (header.placement_at w 0) ≡ l.placements
    unfolding plan_bits
    placements_back f = part_back (placements_widths (listed l)) l.placements H (O ++ (F ++ D)) (header.placement_at w 0) f small-H small-OFD refl (omega (arith, end_H))

    pub operations_back : fits (operations_widths w (listed l)) l.operations ≡ true
        → numbers_at (operations_widths w (listed l)) (packed_plan w l) (header.operation_at w (listed l) 0) ≡ l.operations
    unfolding plan_bits
    operations_back f =
        part_back (operations_widths w (listed l)) l.operations (H ++ P) (F ++ D) (header.operation_at w (listed l) 0) f small-HP small-FD
        (append_assoc H P (O ++ (F ++ D))) (omega (arith, end_P))

    pub forgeries_back : fits (forgeries_widths w (listed l)) l.forgeries ≡ true
        → numbers_at (forgeries_widths w (listed l)) (packed_plan w l) (header.forgery_at w (listed l) 0) ≡ l.forgeries
    unfolding plan_bits
    forgeries_back f =
        part_back (forgeries_widths w (listed l)) l.forgeries ((H ++ P) ++ O) D (header.forgery_at w (listed l) 0) f small-HPO small-D
        (three (F ++ D)) (omega (arith, end_O))

    pub delays_back : fits (delays_widths (listed l)) l.delays ≡ true
        → numbers_at (delays_widths (listed l)) (packed_plan w l) (header.delay_at w (listed l) 0 0 0) ≡ l.delays
    unfolding plan_bits
    delays_back f =
        let last : (((H ++ P) ++ O) ++ F) ++ (D ++ []) ≡ H ++ (P ++ (O ++ (F ++ D))) =
        rw append-nil (append_assoc ((H ++ P) ++ O) F D ∙ three (F ++ D)) in
        part_back (delays_widths (listed l)) l.delays (((H ++ P) ++ O) ++ F) [] (header.delay_at w (listed l) 0 0 0) f small-HPOF (λ i. lit< tt)
        last (omega (arith, end_F))

  -- 'A packed plan, read field by field, gives the lists it came from'
  pub lists_back : Fit w l → lists_of w (packed_plan w l) ≡ l
  unfolding lists_of
  lists_back fit =
      let f = fit.header in
      let full = fit_full w l fit in
      rw (
        header_same f,
        header_back f,
        placements_back f full fit.placements,
        operations_back f full fit.operations,
        forgeries_back f full fit.forgeries,
        delays_back f full fit.delays,
      )
