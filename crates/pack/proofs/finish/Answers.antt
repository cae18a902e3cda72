-- `finish` meets its contract: it goes along the chain of the parts' tests.
use Prim.Native.Nat.{ℕ}
use mathlib.Core.List.{List}
use lib.ListN.{length}
use borrow.Author.Tests.{le-leb, lt-leb}
use Rattle.plan.specs.{Check.result, CheckParts.behind, Shape.shape}
use Rattle.plan.proofs.{Chain.Left, Chain.goes, Chain.stops, Chain.ends, Chain.met, Chain.missed, Buffer.into_refused, Buffer.into_result}
use Rattle.plan.specs.declared.header.Shape.{Shape}
use Rattle.lists.specs.Lists.{Lists}
use Rattle.pack.specs.{Pack.part_tests, Numbered.parts_of}
use Rattle.pack.proofs.Tests.{part_chain, parts_left}
use Rattle.pack.proofs.finish.Goals.{Else-not-delays_pass, Else-not-forgeries_pass, Else-not-operations_pass, Else-not-placements_pass, Else-out-plan}
use Rattle.pack.proofs.finish.Goals as goal

-- so many tests of the plan bs with the header h and the parts l have passed, where there is so much room
abbrev Passed : ℕ → Shape → List ℕ → Lists → ℕ → Type 0
Passed k h bs l room = Left (part_tests h.width (shape h) bs l room) (behind k (part_chain h.width (shape h) bs l room)) (result (length bs))

passed1 : (c : Else-not-placements_pass) → let a = c.args in Passed 1 a.h a.plan.now (parts_of a.parts.now) (length a.out.now)
passed1 c = goes (parts_left _ _ _ _ _) (met c.placements_pass.ensures c.if-not-placements_pass.false-raw)

passed2 : (c : Else-not-operations_pass) → let a = c.args in Passed 2 a.h a.plan.now (parts_of a.parts.now) (length a.out.now)
passed2 c = goes (passed1 (goal.at.Else-not-operations_pass c).Else-not-placements_pass) (met c.operations_pass.ensures c.if-not-operations_pass.false-raw)

passed3 : (c : Else-not-forgeries_pass) → let a = c.args in Passed 3 a.h a.plan.now (parts_of a.parts.now) (length a.out.now)
passed3 c = goes (passed2 (goal.at.Else-not-forgeries_pass c).Else-not-operations_pass) (met c.forgeries_pass.ensures c.if-not-forgeries_pass.false-raw)

passed4 : (c : Else-not-delays_pass) → let a = c.args in Passed 4 a.h a.plan.now (parts_of a.parts.now) (length a.out.now)
passed4 c = goes (passed3 (goal.at.Else-not-delays_pass c).Else-not-forgeries_pass) (met c.delays_pass.ensures c.if-not-delays_pass.false-raw)

passed5 : (c : Else-out-plan) → let a = c.args in Passed 5 a.h a.plan.now (parts_of a.parts.now) (length a.out.now)
passed5 c = goes (passed4 (goal.at.Else-out-plan c).Else-not-delays_pass) (le-leb _ _ c.if-out-plan.false)

pub returns-then-not-placements_pass : goal.returns-then-not-placements_pass
returns-then-not-placements_pass c = into_refused _ _ _ (stops (parts_left _ _ _ _ _) (missed c.placements_pass.ensures c.if-not-placements_pass.true-raw))

pub returns-then-not-operations_pass : goal.returns-then-not-operations_pass
returns-then-not-operations_pass c = into_refused _ _ _ (stops (passed1 (goal.at.returns-then-not-operations_pass c).Else-not-placements_pass) (missed c.operations_pass.ensures c.if-not-operations_pass.true-raw))

pub returns-then-not-forgeries_pass : goal.returns-then-not-forgeries_pass
returns-then-not-forgeries_pass c = into_refused _ _ _ (stops (passed2 (goal.at.returns-then-not-forgeries_pass c).Else-not-operations_pass) (missed c.forgeries_pass.ensures c.if-not-forgeries_pass.true-raw))

pub returns-then-not-delays_pass : goal.returns-then-not-delays_pass
returns-then-not-delays_pass c = into_refused _ _ _ (stops (passed3 (goal.at.returns-then-not-delays_pass c).Else-not-forgeries_pass) (missed c.delays_pass.ensures c.if-not-delays_pass.true-raw))

pub returns-then-out-plan : goal.returns-then-out-plan
returns-then-out-plan c = into_refused _ _ _ (stops (passed4 (goal.at.returns-then-out-plan c).Else-not-delays_pass) (lt-leb _ _ c.if-out-plan.true))

pub returns : goal.returns
returns c = rw c.copy_from_slice.ensures.after (into_result _ _ _ (ends (passed5 (goal.at.returns c).Else-out-plan)))
