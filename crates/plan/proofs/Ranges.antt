-- A header that passes refusal 2, as inequalities; and which movements have a placement.
-- It stands on the definitions of the header and of Check.
use mathlib.Core.Path.{◌≡◌}
use mathlib.Core.Bool.{true}
use mathlib.Core.List.{List}
use Prim.Native.Nat.{ℕ, suc, ◌+◌, ◌*◌, ◌-◌, ◌/◌, ◌≤◌, ◌<◌}
use native.Mathlib.Nat.{le-div_iff_mul-le, div-mul-le_self}
use native.Mathlib.Omega.{arith}
use lib.Dec.{leb, eqb, lit<}
use borrow.Author.Tests.{leb-true, eqb-true}
use Rattle.bits.specs.Layout.{numbers_at}
use Rattle.bits.proofs.Packing.{fits_at, fits_numbers}
use Rattle.register.proofs.Logic.{and_both}
use Rattle.plan.specs.Widths.{header_widths}
use Rattle.plan.specs.Header.{Header, header_of}
use Rattle.plan.specs.Check.{within, header_in_range}
use Rattle.plan.specs.Shape.{Ranged}

inside : (lo hi x : ℕ) → within lo hi x ≡ true → (lo ≤ x) × (x ≤ hi)
inside lo hi x e = let b = and_both (leb lo x) (leb x hi) e in (leb-true lo x b.0, leb-true x hi b.1)

module _ (h : Header) where
  pub ranged : header_in_range h ≡ true → h.operations ≤ 255 → Ranged h
  unfolding header_in_range
  ranged e o =
      let b1 = and_both (within 1 16 h.n) _ e in
      let b2 = and_both (within 1 15 h.delta) _ b1.1 in
      let b3 = and_both (within h.delta 63 h.period) _ b2.1 in
      let b4 = and_both (within 1 4 h.readers) _ b3.1 in
      let b5 = and_both (within 1 128 h.ticks) _ b4.1 in
      let b6 = and_both (leb h.forgeries 1024) (eqb h.zero_bit 0) b5.1 in
      record {
        n_lo = (inside 1 16 h.n b1.0).0;
        n_hi = (inside 1 16 h.n b1.0).1;
        delta_lo = (inside 1 15 h.delta b2.0).0;
        delta_hi = (inside 1 15 h.delta b2.0).1;
        period_lo = (inside h.delta 63 h.period b3.0).0;
        period_hi = (inside h.delta 63 h.period b3.0).1;
        readers_lo = (inside 1 4 h.readers b4.0).0;
        readers_hi = (inside 1 4 h.readers b4.0).1;
        ticks_lo = (inside 1 128 h.ticks b5.0).0;
        ticks_hi = (inside 1 128 h.ticks b5.0).1;
        operations_hi = o;
        forgeries_hi = leb-true h.forgeries 1024 b6.0;
        zero_bit_zero = eqb-true h.zero_bit 0 b6.1;
      }

-- the same of a plan's header
pub ranged_header : (w : ℕ) (s : List ℕ) → header_in_range (header_of w s) ≡ true → Ranged (header_of w s)
unfolding header_of
ranged_header w s e =
    let few = fits_at (header_widths w) (numbers_at (header_widths w) s 0) (fits_numbers (header_widths w) s 0) 7 (lit< tt) in
    ranged (header_of w s) e (omega (arith, few))

-- movement i, in tick i p, is one of the plan's if that tick is below t; and so is the last one by a tick below t
pub movement_below : (t i p : ℕ) → 1 ≤ p → i * p < t → i < (t + (p - 1)) / p
movement_below t i p h l = (le-div_iff_mul-le {x = suc i} {y = t + (p - 1)} h).1 (omega arith)

pub movement_of : (t at p : ℕ) → 1 ≤ p → at < t → at / p < (t + (p - 1)) / p
movement_of t at p h l = movement_below t (at / p) p h (omega (arith, div-mul-le_self at p))
