-- An operation, and a forgery, taken out of the number that has all its bits is the one that stands there.
use mathlib.Core.Path.{◌≡◌, sym, ap, ◌∙◌}
use mathlib.Core.List.{List}
use Prim.Native.Nat.{ℕ, ◌+◌, ◌/◌, ◌%◌, ◌^◌}
use native.Mathlib.Nat.{add-zero, div-one, div-div-eq-div-mul}
use lib.Pow.{pow-add}
use native.Mathlib.Omega.{arith}
use Rattle.register.specs.Plan.{stamped}
use Rattle.bits.specs.Field.{field_of}
use Rattle.bits.specs.Layout.{numbers_in}
use Rattle.bits.proofs.Numbers.{numbers_in_lem}
use Rattle.plan.specs.Widths.{operation_widths, forgery_widths}
use Rattle.plan.specs.Header.{forgery_bits}
use Rattle.plan.specs.Parts.{operation_from, forgery_from, forgery_in}
use Rattle.plan.specs.Steps.{forgery, IsForged}
use Rattle.plan.specs.declared.forgeries.Forged.{Forged}

pub forged_in_lem : (w : ℕ) (s : List ℕ) (at all : ℕ) (g : Forged) → all ≡ field_of s at (forgery_bits w) → IsForged w all g → forgery w g ≡ forgery_in w s at
forged_in_lem w s at all g e is =
    is.is
    ∙ ap (forgery_from w) (ap (numbers_in (forgery_widths w)) e ∙ sym (numbers_in_lem (forgery_widths w) s at))

-- a shift in two steps
shifted : (all a b : ℕ) → all / 2 ^ (a + b) ≡ all / 2 ^ a / 2 ^ b
shifted all a b = rw (pow-add 2 a b, ← div-div-eq-div-mul)

-- the parts of the number as the code takes them: of an operation what stands above the value, and the value
pub operation_parts : (w all : ℕ) → operation_from (numbers_in (operation_widths w) all)
    ≡ record { at = all / 2 ^ w / 2 ^ 3 % 2 ^ 7; party = all / 2 ^ w / 2 ^ 0 % 2 ^ 3; value = all / 2 ^ 0 % 2 ^ w }
operation_parts w all =
    let party : w + 0 ≡ w = add-zero w in
    let tick : 3 + (w + 0) ≡ w + 3 = omega arith in
    rw (tick, party, shifted all w 3, div-one (all / 2 ^ w))

-- of a forgery what stands above the number, and of that what stands above the value
pub forgery_parts : (w all : ℕ) → forgery_from w (numbers_in (forgery_widths w) all) ≡ record {
  at = all / 2 ^ 8 / 2 ^ w / 2 ^ 9 % 2 ^ 7;
  from = all / 2 ^ 8 / 2 ^ w / 2 ^ 5 % 2 ^ 4;
  to = all / 2 ^ 8 / 2 ^ w / 2 ^ 0 % 2 ^ 5;
  pair = stamped w (all / 2 ^ 8 / 2 ^ 0 % 2 ^ w) (all / 2 ^ 0 % 2 ^ 8);
}
forgery_parts w all =
    let receiver : all / 2 ^ (w + 8) ≡ all / 2 ^ 8 / 2 ^ w = ap (λ (k : ℕ). all / 2 ^ k) (omega arith) ∙ shifted all 8 w in
    let sender : all / 2 ^ (5 + (w + 8)) ≡ all / 2 ^ 8 / 2 ^ w / 2 ^ 5 = ap (λ (k : ℕ). all / 2 ^ k) (omega arith) ∙ shifted all (w + 8) 5 ∙ ap (λ (x : ℕ). x / 2 ^ 5) receiver in
    let tick : all / 2 ^ (4 + (5 + (w + 8))) ≡ all / 2 ^ 8 / 2 ^ w / 2 ^ 9 = ap (λ (k : ℕ). all / 2 ^ k) (omega arith) ∙ shifted all (w + 8) 9 ∙ ap (λ (x : ℕ). x / 2 ^ 9) receiver in
    rw (tick, sender, receiver, div-one (all / 2 ^ 8 / 2 ^ w), div-one (all / 2 ^ 8))
