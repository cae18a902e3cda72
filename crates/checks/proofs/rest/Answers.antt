-- `rest` meets its contract: it goes along the chain of the tests.
use mathlib.Core.Path.{◌≡◌, sym, ap, ◌∙◌}
use mathlib.Core.Bool.{◌&&◌}
use mathlib.Core.List.{List}
use Prim.Native.Nat.{ℕ}
use native.Mathlib.Omega.{arith}
use lib.ListN.{length}
use borrow.Author.Tests.{eq-eqb, ne_eqb}
use Rattle.plan.specs.declared.header.Shape.{Shape}
use Rattle.plan.specs.{Header.Header, Parts.operations_of, Parts.reads_from, Packed.plan_of, Check.result, Check.delays_stand, Check.final_bits_zero, CheckParts.behind, CheckParts.rest_tests, CheckParts.check_rest, Shape.shape, Shape.Sized}
use Rattle.plan.proofs.Sizes.{sizes}
use Rattle.plan.proofs.Chain.{Left, goes, stops, ends, rest_left}
use Rattle.checks.proofs.rest.Goals.{then-all_stand, else-all_stand, Else-not-all_stand, Else-not-all_stand-2, Else-not-all_stand-3, Else-plan-bytes}
use Rattle.checks.proofs.rest.Goals as goal

-- so many tests of the plan bs with the header h have passed
abbrev Passed : ℕ → Shape → List ℕ → Type 0
Passed k h bs = Left (check_rest h.width bs (shape h)) (behind k (rest_tests h.width bs (shape h))) (result (length (plan_of h.width bs).reads))

sized : (c : Else-plan-bytes) → Sized c.args.h.width c.args.plan.now (shape c.args.h)
sized c = let p = c.requires in
    sizes _ _ _ p.0 p.1 (rw (← c.bytes.ensures) c.if-plan-bytes.false)

passed1 : (c : Else-plan-bytes) → Passed 1 c.args.h c.args.plan.now
passed1 c = goes (rest_left _ _ _) (eq-eqb _ _ (sized c).size)

passed2 : (c : Else-not-all_stand) → Passed 2 c.args.h c.args.plan.now
passed2 c = goes (passed1 (goal.at.Else-not-all_stand c).Else-plan-bytes) (sym c.if-not-all_stand.ensures)

passed3 : (c : Else-not-all_stand-2) → Passed 3 c.args.h c.args.plan.now
passed3 c = goes (passed2 (goal.at.Else-not-all_stand-2 c).Else-not-all_stand) (sym c.if-not-all_stand-2.ensures)

passed4 : (c : Else-not-all_stand-3) → Passed 4 c.args.h c.args.plan.now
passed4 c = goes (passed3 (goal.at.Else-not-all_stand-3 c).Else-not-all_stand-2) (sym c.if-not-all_stand-3.ensures)

pub bytes-requires : goal.bytes-requires
bytes-requires c = let p = c.requires in (p.0, p.1)

pub returns-then-plan-bytes : goal.returns-then-plan-bytes
returns-then-plan-bytes c = stops (rest_left _ _ _) (rw (← c.bytes.ensures) (ne_eqb _ _ c.if-plan-bytes.true))

pub all_stand-requires : goal.all_stand-requires
all_stand-requires c = sized (goal.at.all_stand-requires c).Else-plan-bytes

pub returns-then-not-all_stand : goal.returns-then-not-all_stand
returns-then-not-all_stand c = stops (passed1 (goal.at.returns-then-not-all_stand c).Else-plan-bytes) (sym c.if-not-all_stand.ensures)

pub all_stand-requires-2 : goal.all_stand-requires-2
all_stand-requires-2 c = sized (goal.at.all_stand-requires-2 c).Else-plan-bytes

pub returns-then-not-all_stand-2 : goal.returns-then-not-all_stand-2
returns-then-not-all_stand-2 c = stops (passed2 (goal.at.returns-then-not-all_stand-2 c).Else-not-all_stand) (sym c.if-not-all_stand-2.ensures)

pub all_stand-requires-3 : goal.all_stand-requires-3
all_stand-requires-3 c = (sized (goal.at.all_stand-requires-3 c).Else-plan-bytes, c.requires.2, sym c.if-not-all_stand-2.ensures)

pub returns-then-not-all_stand-3 : goal.returns-then-not-all_stand-3
returns-then-not-all_stand-3 c = stops (passed3 (goal.at.returns-then-not-all_stand-3 c).Else-not-all_stand-2) (sym c.if-not-all_stand-3.ensures)

pub all_stand-requires-4 : goal.all_stand-requires-4
all_stand-requires-4 c = sized (goal.at.all_stand-requires-4 c).Else-plan-bytes

pub are_final_bits_zero-requires : goal.are_final_bits_zero-requires
are_final_bits_zero-requires c = sized (goal.at.are_final_bits_zero-requires c).Else-plan-bytes

pub returns-then-not-are_final_bits_zero : goal.returns-then-not-are_final_bits_zero
returns-then-not-are_final_bits_zero c = let h = c.args.h in
    let e : c.if-all_stand.value ≡ delays_stand h.width c.args.plan.now (shape h) && final_bits_zero h.width c.args.plan.now (shape h) = elim c.if-all_stand.branch [ then-all_stand w ↦ grind arith | else-all_stand w ↦ grind arith ] in
    stops (passed4 (goal.at.returns-then-not-are_final_bits_zero c).Else-not-all_stand-3) (sym e ∙ c.if-not-are_final_bits_zero.true)

pub count-requires : goal.count-requires
count-requires c = sized (goal.at.count-requires c).Else-plan-bytes

pub returns : goal.returns
unfolding plan_of
returns c = let h = c.args.h in
    let e : c.if-all_stand.value ≡ delays_stand h.width c.args.plan.now (shape h) && final_bits_zero h.width c.args.plan.now (shape h) = elim c.if-all_stand.branch [ then-all_stand w ↦ grind arith | else-all_stand w ↦ grind arith ] in
    ap result (c.count.ensures ∙ ap (λ (x : Header). length (reads_from (operations_of h.width c.args.plan.now x))) c.requires.2)
    ∙ ends (goes (passed4 (goal.at.returns c).Else-not-all_stand-3) (sym e ∙ c.if-not-are_final_bits_zero.false))
