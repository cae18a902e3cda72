-- `values::all_fit` meets its contract: the start value fits, those that are written and those that are forged.
use mathlib.Core.Path.{◌≡◌}
use mathlib.Core.Bool.{Bool, ◌&&◌}
use mathlib.Core.List.{List}
use Prim.Native.Nat.{ℕ, ◌^◌}
use native.Mathlib.Omega.{arith}
use lib.Dec.{ltb}
use borrow.Author.Rules.{rules}
use borrow.Author.Tests.{lt-ltb, le-ltb}
use Rattle.std.proofs.lemmas.Bool.Decides.{nat_tests}
use Rattle.bits.proofs.Laws.{one_shl}
use Rattle.register.specs.{Lists.all_up_to, Plan.value_of}
use Rattle.plan.specs.{declared.header.Shape.Shape, Header.header_of, Parts.operation_of, Parts.forgery_of, Shape.shape}
use Rattle.carrying.specs.Carrying.{values_fit}
use Rattle.carry.proofs.Fields.{written_values, forged_values, written_inside, forged_inside}
use Rattle.carry.proofs.values.all_fit.Goals.{then-from-limit, else-from-limit}
use Rattle.carry.proofs.values.all_fit.Goals as goal

-- the tests of what is written and of what is forged
abbrev written : Shape → List ℕ → ℕ → Bool
written h s w = all_up_to h.operations (λ i. ltb (operation_of h.width s (shape h) i).value (2 ^ w))

abbrev forged : Shape → List ℕ → ℕ → Bool
forged h s w = all_up_to h.forgeries (λ i. ltb (value_of h.width (forgery_of h.width s (shape h) i).pair) (2 ^ w))

-- by the definition
parts : (h : Shape) (s : List ℕ) (w : ℕ) → shape h ≡ header_of h.width s → values_fit h.width w s ≡ (ltb h.initial (2 ^ w) && (written h s w && forged h s w))
unfolding values_fit
parts h s w e = rw (← e)

pub values_fit-requires : goal.values_fit-requires
values_fit-requires c = let a = c.args in
    rw (c.from-had.ensures, c.from.ensures)
    (c.requires.0.narrow, written_inside a.h.width a.plan.now (shape a.h) c.operations_at.ensures.0 c.operation_bits.ensures c.requires.0)

pub forged_fit-requires : goal.forged_fit-requires
forged_fit-requires c = let a = c.args in
    rw (c.from-had.ensures, c.from-2.ensures)
    (c.requires.0.narrow, omega (arith, c.requires.0, c.forgeries_at.ensures.0), search rules, forged_inside a.h.width a.plan.now (shape a.h) c.forgeries_at.ensures.0 c.forgery_bits.ensures c.requires.0)

pub returns-then-values_fit : goal.returns-then-values_fit
returns-then-values_fit c = let a = c.args in
    let limit = one_shl a.width 64 (omega arith) in
    elim c.if-from-limit.branch [
      | then-from-limit b ↦
          let first = lt-ltb a.h.initial (2 ^ a.width) (rw (c.from-3.ensures, limit) at b.if-from-limit.true) in
          let second : b.values_fit.result ≡ written a.h a.plan.now a.width =
          rw (c.from-had.ensures, c.from.ensures, limit, written_values a.h.width a.plan.now (shape a.h) c.operations_at.ensures.0 c.operation_bits.ensures (2 ^ a.width)) at b.values_fit.ensures in
          let third : c.forged_fit.result ≡ forged a.h a.plan.now a.width =
          rw (c.from-had.ensures, c.from-2.ensures, limit, forged_values a.h.width a.plan.now (shape a.h) c.forgeries_at.ensures.0 c.forgery_bits.ensures (2 ^ a.width)) at c.forged_fit.ensures in
          rw (parts a.h a.plan.now a.width c.requires.1, first, ← second, ← b.value-is, c.if-values_fit.true) third
      | else-from-limit b ↦ absurd (grind (arith, nat_tests))
    ]

pub returns-else-values_fit : goal.returns-else-values_fit
returns-else-values_fit c = let a = c.args in
    let limit = one_shl a.width 64 (omega arith) in
    elim c.if-from-limit.branch [
      | then-from-limit b ↦
          let first = lt-ltb a.h.initial (2 ^ a.width) (rw (c.from-3.ensures, limit) at b.if-from-limit.true) in
          let second : b.values_fit.result ≡ written a.h a.plan.now a.width =
          rw (c.from-had.ensures, c.from.ensures, limit, written_values a.h.width a.plan.now (shape a.h) c.operations_at.ensures.0 c.operation_bits.ensures (2 ^ a.width)) at b.values_fit.ensures in
          rw (parts a.h a.plan.now a.width c.requires.1, first, ← second, ← b.value-is, c.if-values_fit.false)
      | else-from-limit b ↦
          let first = le-ltb a.h.initial (2 ^ a.width) (rw (c.from-3.ensures, limit) at b.if-from-limit.false) in
          rw (parts a.h a.plan.now a.width c.requires.1, first, c.if-values_fit.false)
    ]
