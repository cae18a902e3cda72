-- The fields of the longest plan: the numbers of its lists.
-- It stands on the inverse of packing and on the law of a record among others.
use mathlib.Core.Path.{◌≡◌, refl, ap, sym, ◌∙◌}
use mathlib.Core.Bool.{true}
use mathlib.Core.List.{List, ◌++◌}
use Prim.Native.Nat.{ℕ, zero, suc, ◌+◌, ◌*◌, ◌/◌, ◌%◌, ◌^◌, ◌≤◌, ◌<◌}
use native.Mathlib.{Nat.mul-zero, Nat.add-zero, Decide.ℕ_discrete, Omega.arith}
use lib.{Dec.ltb, Pow.pow_pos}
use lib.ListN.{length, take, drop, length-append, length-drop}
use lib.Seq.{take_all, drop_at, take-append-le, drop-append-le}
use borrow.Author.Tests.{lt-ltb}
use Rattle.bits.specs.{Field.field_of, Fill.fill, Fill.bytes_for, Layout.total, Layout.records, Layout.numbers_at, Layout.fits}
use Rattle.bits.proofs.Packing.{fits_length, in_final}
use Rattle.bits.proofs.Records.{records_last, record_at, fits_append}
use Rattle.register.specs.Lists.{flat}
use Rattle.register.proofs.{Counting.one_if_le, Logic.and_both}
use Rattle.plan.specs.{Widths.placement_widths, Widths.operation_widths, Widths.forgery_widths, Widths.delay_widths, Header.header_of, Header.header_bits, Header.operation_bits, Header.forgery_bits, Header.moves, Header.placement_at, Header.operation_at, Header.forgery_at, Header.delay_at, Header.bit_length, Limits.most_bytes, Parts.is_link}
use Rattle.plan.proofs.Laws.{row_inside, all_at}
use Rattle.lists.specs.Lists.{Lists, lists_of, plan_bits, packed_plan}
use Rattle.lists.proofs.Inverse.{Fit, fit_full, header_same, lists_back, plan_length, plan_small, plan_bytes}
use Rattle.longest.specs.Longest.{placement_numbers, operation_numbers, forgery_numbers, delay_numbers, longest_lists, longest_plan, begun_at, party_of, delay_in}
use Rattle.longest.proofs.Passes.{header, narrow, all_narrow}

-- records one behind the other, each with a number for each field
module _ (vs : List ℕ) (g : ℕ → List ℕ) (even : (i : ℕ) → length (g i) ≡ length vs) where
  length-flat : (m : ℕ) → length (flat m g) ≡ length vs * m
  unfolding flat
  length-flat zero = omega arith
  length-flat (suc m) = rw (length-append (flat m g) (g m), even m, length-flat m) (omega arith)

  fits-flat : (m : ℕ) → ((i : ℕ) → i < m → fits vs (g i) ≡ true) → fits (records m vs) (flat m g) ≡ true
  unfolding flat records fits
  fits-flat zero h = refl
  fits-flat (suc m) h =
      let ih = fits-flat m (λ i l. h i (omega arith)) in
      ap (λ (ws : List ℕ). fits ws (flat m g ++ g m)) (records_last vs m)
      ∙ fits_append vs (g m) (records m vs) (flat m g) (fits_length (records m vs) (flat m g) ih)
      ∙ rw (ih, h m (omega arith)) refl

  -- the numbers of record i
  take-flat : (m i : ℕ) → i < m → take (length vs) (drop (length vs * i) (flat m g)) ≡ g i
  unfolding flat
  take-flat zero i l = absurd (omega arith)
  take-flat (suc m) i l =
      let z = length-flat m in
      elim (ℕ_discrete i m) [
        | yes e ↦ rw (e, drop_at (flat m g) (g m) (length vs * m) z) (take_all (length vs) (g m) (omega (arith, even m)))
        | no d ↦ (
            let inside = row_inside i m (length vs) (omega arith) in
            rw (drop-append-le (length vs * i) (flat m g) (g m) (omega arith), take-append-le (length vs) (drop (length vs * i) (flat m g)) (g m) (rw length-drop (omega arith)))
            (take-flat m i (omega arith))
            )
      ]

  record-flat : (s : List ℕ) (at m i : ℕ) → i < m → numbers_at (records m vs) s at ≡ flat m g → numbers_at vs s (at + total vs * i) ≡ g i
  record-flat s at m i l e =
      sym (record_at vs s m i at l) ∙ ap (λ (xs : List ℕ). take (length vs) (drop (length vs * i) xs)) e ∙ take-flat m i l

-- every number fits its field
delay_few : (q : ℕ) → delay_in q ≤ 1
unfolding delay_in
delay_few q = one_if_le (is_link 16 (q / 21 % 21) (q % 21))

-- the values are 0
zero_fits : (w : ℕ) → ltb 0 (2 ^ w) ≡ true
zero_fits w = lt-ltb 0 (2 ^ w) (pow_pos w)

-- a record's place, counted from the first one's
from_first : (at bits i : ℕ) → at + bits * 0 + bits * i ≡ at + bits * i
from_first at bits i = rw (mul-zero, add-zero)

module _ (w : ℕ) where
  longest-fit : Fit w longest_lists
  unfolding fits moves narrow
  longest-fit = record {
    header = rw (zero_fits w) refl;
    placements = fits-flat placement_widths placement_numbers (λ i. refl) 128 (λ i l. refl);
    operations =
        fits-flat (operation_widths w) operation_numbers (λ i. refl) 232
        (λ i l. let b = and_both (ltb (begun_at i) 128) (ltb (party_of i) 8) (all_at narrow 232 i l all_narrow) in rw (b.0, b.1, zero_fits w) refl);
    forgeries =
        fits-flat (forgery_widths w) forgery_numbers (λ i. refl) 1024
        (λ i l. rw (lt-ltb (i / 8) 128 (omega arith), lt-ltb (i % 8 + 1) 32 (omega arith), zero_fits w) refl);
    delays = fits-flat delay_widths delay_numbers (λ i. refl) 56448 (λ q l. rw (lt-ltb (delay_in q) 16 (omega (arith, delay_few q))) refl);
  }

  pub length_longest : length (longest_plan w) ≡ bytes_for (bit_length w header)
  unfolding longest_plan
  length_longest = plan_bytes w longest_lists longest-fit.header (fit_full w longest_lists longest-fit)

  -- the final bits
  pub final_zero : field_of (longest_plan w) (bit_length w header) (fill 8 (bit_length w header)) ≡ 0
  unfolding longest_plan packed_plan
  final_zero =
      let e = plan_length w longest_lists longest-fit.header (fit_full w longest_lists longest-fit) in
      rw (← e) (in_final (plan_bits w longest_lists) (plan_small w longest_lists) (fill 8 (length (plan_bits w longest_lists))))

  pub header_is : header_of w (longest_plan w) ≡ header
  unfolding longest_plan
  header_is = header_same w longest_lists longest-fit.header

  lists-are : lists_of w (longest_plan w) ≡ longest_lists
  unfolding longest_plan
  lists-are = lists_back w longest_lists longest-fit

  -- the numbers of each record
  pub placement_is : (i : ℕ) → i < 128 → numbers_at placement_widths (longest_plan w) (placement_at w i) ≡ placement_numbers i
  unfolding lists_of moves
  placement_is i l =
      let all = rw header_is at (ap (λ (x : Lists). x.placements) lists-are) in
      rw (from_first (header_bits w) 16 i) at (record-flat placement_widths placement_numbers (λ j. refl) (longest_plan w) (placement_at w 0) 128 i l all)

  pub operation_is : (i : ℕ) → i < 232 → numbers_at (operation_widths w) (longest_plan w) (operation_at w header i) ≡ operation_numbers i
  unfolding lists_of moves
  operation_is i l =
      let all = rw header_is at (ap (λ (x : Lists). x.operations) lists-are) in
      rw (from_first (placement_at w 128) (operation_bits w) i) at (record-flat (operation_widths w) operation_numbers (λ j. refl) (longest_plan w) (operation_at w header 0) 232 i l all)

  pub forgery_is : (i : ℕ) → i < 1024 → numbers_at (forgery_widths w) (longest_plan w) (forgery_at w header i) ≡ forgery_numbers i
  unfolding lists_of moves
  forgery_is i l =
      let all = rw header_is at (ap (λ (x : Lists). x.forgeries) lists-are) in
      rw (from_first (operation_at w header 232) (forgery_bits w) i) at (record-flat (forgery_widths w) forgery_numbers (λ j. refl) (longest_plan w) (forgery_at w header 0) 1024 i l all)

  pub delay_is : (q : ℕ) → q < 56448 → numbers_at delay_widths (longest_plan w) (forgery_at w header 1024 + 4 * q) ≡ delay_numbers q
  unfolding lists_of moves
  delay_is q l =
      let all = rw header_is at (ap (λ (x : Lists). x.delays) lists-are) in
      rw (from_first (forgery_at w header 1024) 4 q) at (record-flat delay_widths delay_numbers (λ j. refl) (longest_plan w) (delay_at w header 0 0 0) 56448 q l all)

-- 'An accepted plan has at most 34,362 bytes', and one of form two at most 35,619
pub length_one : length (longest_plan 16) ≡ most_bytes 1
unfolding moves
length_one = length_longest 16

pub length_two : length (longest_plan 24) ≡ most_bytes 2
unfolding moves
length_two = length_longest 24
