-- Two plans with the same lists, whatever the widths of their values: every field of one is that field of the other.
-- It stands on the law of a record among others.
use mathlib.Core.Path.{◌≡◌, ◌∙◌, refl, ap, sym}
use mathlib.Core.List.{List}
use Prim.Native.Nat.{ℕ, ◌+◌, ◌*◌, ◌<◌}
use native.Mathlib.Nat.{mul_assoc}
use native.Mathlib.Omega.{arith}
use lib.ListN.{get_or}
use Rattle.bits.specs.Field.{field_of}
use Rattle.bits.specs.Layout.{numbers_at}
use Rattle.plan.specs.Widths.{placement_widths, operation_widths, forgery_widths, delay_widths}
use Rattle.plan.specs.Header.{Header, header_of, moves, parties, delay_count, placement_at, operation_at, forgery_at, delay_at}
use Rattle.plan.specs.Parts.{operation_of, forgery_of, operation_from, forgery_from, delay_of}
use Rattle.plan.proofs.Laws.{row_inside}
use Rattle.lists.specs.Lists as lists
use Rattle.lists.specs.Lists.{Lists, listed, lists_of}
use Rattle.lists.proofs.Again.{listed_same}
use Rattle.carrying.proofs.Parts.{record_same}

-- a place in the table of the delays
link_below : (m p c i j : ℕ) → c < m → i < p → j < p → (c * p + i) * p + j < m * (p * p)
link_below m p c i j a b d =
    let row = row_inside c m p a in
    let all = row_inside (c * p + i) (m * p) p (omega arith) in
    let e = mul_assoc m p p in
    omega arith

module _ (v w : ℕ) (s t : List ℕ) (same : lists_of v s ≡ lists_of w t) where
  -- the header of both
  abbrev h : Header
  h = header_of v s

  pub header_alike : header_of w t ≡ header_of v s
  header_alike = sym (listed_same w t) ∙ ap listed (sym same) ∙ listed_same v s

  pub placement_alike : (i : ℕ) → i < moves h → field_of s (placement_at v i) 16 ≡ field_of t (placement_at w i) 16
  unfolding lists_of
  placement_alike i l =
      let all : numbers_at (lists.placements_widths h) s (placement_at v 0) ≡ numbers_at (lists.placements_widths h) t (placement_at w 0) =
      rw header_alike at (ap (λ (x : Lists). x.placements) same) in
      let e = record_same placement_widths placement_widths s t (moves h) i (placement_at v 0) (placement_at w 0) (placement_at v i) (placement_at w i) refl l all (omega arith) (omega arith) in
      ap (λ (xs : List ℕ). get_or xs 0 0) e

  pub operation_numbers_lem : (i : ℕ) → i < h.operations
      → numbers_at (operation_widths v) s (operation_at v h i) ≡ numbers_at (operation_widths w) t (operation_at w h i)
  unfolding lists_of
  operation_numbers_lem i l =
      let all : numbers_at (lists.operations_widths v h) s (operation_at v h 0) ≡ numbers_at (lists.operations_widths w h) t (operation_at w h 0) =
      rw header_alike at (ap (λ (x : Lists). x.operations) same) in
      record_same (operation_widths v) (operation_widths w) s t h.operations i (operation_at v h 0) (operation_at w h 0)
      (operation_at v h i) (operation_at w h i) refl l all (omega arith) (omega arith)

  pub forgery_numbers_lem : (i : ℕ) → i < h.forgeries
      → numbers_at (forgery_widths v) s (forgery_at v h i) ≡ numbers_at (forgery_widths w) t (forgery_at w h i)
  unfolding lists_of
  forgery_numbers_lem i l =
      let all : numbers_at (lists.forgeries_widths v h) s (forgery_at v h 0) ≡ numbers_at (lists.forgeries_widths w h) t (forgery_at w h 0) =
      rw header_alike at (ap (λ (x : Lists). x.forgeries) same) in
      record_same (forgery_widths v) (forgery_widths w) s t h.forgeries i (forgery_at v h 0) (forgery_at w h 0)
      (forgery_at v h i) (forgery_at w h i) refl l all (omega arith) (omega arith)

  pub operation_alike : (i : ℕ) → i < h.operations → operation_of w t h i ≡ operation_of v s h i
  unfolding operation_of
  operation_alike i l = ap operation_from (sym (operation_numbers_lem i l))

  -- the stamped value alone is made by the width
  pub forgery_alike : (i : ℕ) → i < h.forgeries → forgery_of w t h i ≡ forgery_from w (numbers_at (forgery_widths v) s (forgery_at v h i))
  unfolding forgery_of
  forgery_alike i l = ap (forgery_from w) (sym (forgery_numbers_lem i l))

  pub delay_alike : (c i j : ℕ) → c < h.ticks → i < parties h → j < parties h → delay_of w t h c i j ≡ delay_of v s h c i j
  unfolding lists_of delay_of
  delay_alike c i j a b d =
      let all : numbers_at (lists.delays_widths h) s (delay_at v h 0 0 0) ≡ numbers_at (lists.delays_widths h) t (delay_at w h 0 0 0) =
      rw header_alike at (ap (λ (x : Lists). x.delays) same) in
      let k = (c * parties h + i) * parties h + j in
      let e = record_same delay_widths delay_widths s t (delay_count h) k (delay_at v h 0 0 0) (delay_at w h 0 0 0) (delay_at v h c i j) (delay_at w h c i j)
      refl (link_below h.ticks (parties h) c i j a b d) all (omega arith) (omega arith) in
      sym (ap (λ (xs : List ℕ). get_or xs 0 0) e)
