-- Where every value has at most w bits, the numbers of a plan fit the fields of the other form, and the carried plan has the same lists.
-- It stands on the laws of packing lists.
use mathlib.Core.Path.{◌≡◌, refl}
use mathlib.Core.Bool.{true}
use mathlib.Core.List.{List}
use Prim.Native.Nat.{ℕ, ◌+◌, ◌*◌, ◌^◌, ◌<◌}
use native.Mathlib.Omega.{arith}
use borrow.Author.Tests.{lt-ltb}
use Rattle.bits.specs.Field.{field_of}
use Rattle.bits.specs.Layout.{total, numbers_at, fits}
use Rattle.bits.proofs.Laws.{field_lt}
use Rattle.plan.specs.Widths.{header_widths, operation_widths, forgery_widths}
use Rattle.plan.specs.Header.{Header, header_of, operation_at, forgery_at}
use Rattle.plan.specs.Parts.{operation_of}
use Rattle.lists.specs.Lists.{lists_of}
use Rattle.lists.proofs.{Inverse.Fit, Inverse.lists_back, Again.lists_fit}
use Rattle.carrying.specs.Carrying.{carried_plan, values_fit}
use Rattle.carrying.proofs.Parts.{fits_records}
use Rattle.carrying.proofs.Values.{Below, below, forgery_value}

module _ (v w : ℕ) (s : List ℕ) where
  h : Header
  h = header_of v s

  header-fits : field_of s 28 v < 2 ^ w → fits (header_widths w) (numbers_at (header_widths v) s 0) ≡ true
  unfolding fits
  header-fits l =
      rw (
        lt-ltb _ _ (field_lt s 0 5),
        lt-ltb _ _ (field_lt s 5 2),
        lt-ltb _ _ (field_lt s 7 4),
        lt-ltb _ _ (field_lt s 11 6),
        lt-ltb _ _ (field_lt s 17 3),
        lt-ltb _ _ (field_lt s 20 8),
        lt-ltb _ _ l,
        lt-ltb _ _ (field_lt s (28 + v) 8),
        lt-ltb _ _ (field_lt s (28 + v + 8) 11),
        lt-ltb _ _ (field_lt s (28 + v + 8 + 11) 1),
      )

  operation-fits : (at : ℕ) → field_of s (at + 7 + 3) v < 2 ^ w → fits (operation_widths w) (numbers_at (operation_widths v) s at) ≡ true
  unfolding fits
  operation-fits at l = rw (lt-ltb _ _ (field_lt s at 7), lt-ltb _ _ (field_lt s (at + 7) 3), lt-ltb _ _ l)

  forgery-fits : (at : ℕ) → field_of s (at + 7 + 4 + 5) v < 2 ^ w → fits (forgery_widths w) (numbers_at (forgery_widths v) s at) ≡ true
  unfolding fits
  forgery-fits at l =
      rw (
        lt-ltb _ _ (field_lt s at 7),
        lt-ltb _ _ (field_lt s (at + 7) 4),
        lt-ltb _ _ (field_lt s (at + 7 + 4) 5),
        lt-ltb _ _ l,
        lt-ltb _ _ (field_lt s (at + 7 + 4 + 5 + v) 8),
      )

  operation-there : Below v w s → (i : ℕ) → i < h.operations → fits (operation_widths w) (numbers_at (operation_widths v) s (operation_at v h 0 + total (operation_widths v) * i)) ≡ true
  unfolding operation_of h
  operation-there b i l =
      let at : operation_at v h 0 + total (operation_widths v) * i ≡ operation_at v h i = omega arith in
      rw at (operation-fits (operation_at v h i) (b.operations i l))

  forgery-there : Below v w s → (i : ℕ) → i < h.forgeries → fits (forgery_widths w) (numbers_at (forgery_widths v) s (forgery_at v h 0 + total (forgery_widths v) * i)) ≡ true
  unfolding h
  forgery-there b i l =
      let at : forgery_at v h 0 + total (forgery_widths v) * i ≡ forgery_at v h i = omega arith in
      rw at (forgery-fits (forgery_at v h i) (rw (forgery_value v s h i) at (b.forgeries i l)))

  pub fit_lists : values_fit v w s ≡ true → Fit w (lists_of v s)
  unfolding lists_of header_of h
  fit_lists e =
      let b = below v w s e in
      let same = lists_fit v s in
      record {
        header = header-fits b.initial;
        placements = same.placements;
        operations = fits_records (operation_widths v) (operation_widths w) s refl h.operations (operation_at v h 0) (operation-there b);
        forgeries = fits_records (forgery_widths v) (forgery_widths w) s refl h.forgeries (forgery_at v h 0) (forgery-there b);
        delays = same.delays;
      }

  -- 'every field keeping its number'
  pub carried_lists : values_fit v w s ≡ true → lists_of w (carried_plan v w s) ≡ lists_of v s
  unfolding carried_plan
  carried_lists e = lists_back w (lists_of v s) (fit_lists e)
