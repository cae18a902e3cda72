-- `reads::count` meets its contract: the loop has counted among the first i operations.
use mathlib.Core.Path.{◌≡◌, refl, sym, ap, ◌∙◌}
use native.Mathlib.Omega.{arith}
use borrow.Author.Tests.{eq-eqb, ne_eqb}
use Rattle.register.specs.Lists.{count}
use Rattle.plan.specs.Shape.{shape}
use Rattle.plan.specs.Parts.{operation_of, operations_of}
use Rattle.plan.proofs.Reading.{is_read, length_reads, count_yes, count_no}
use Rattle.operations.proofs.Passed.{operation_is}
use Rattle.operations.proofs.reads.count.Goals.{then-operation_of-ne0, else-operation_of-ne0}
use Rattle.operations.proofs.reads.count.Goals as goal

pub loop-i-init : goal.loop-i-init
unfolding count
loop-i-init c = (omega arith, refl)

pub loop-i-preserved : goal.loop-i-preserved
loop-i-preserved c = let l = c.loop-i in
    let a = c.args in
    let is = ap is_read (operation_is a.h.width a.plan.now (shape a.h) l.i _ c.operation_of.ensures) in
    elim c.if-operation_of-ne0.branch [
      | then-operation_of-ne0 w ↦ (omega arith, w.reads-is ∙ omega (arith, count_yes (λ j. is_read (operation_of a.h.width a.plan.now (shape a.h) j)) l.i (is ∙ rw (ne_eqb _ _ w.if-operation_of-ne0.true)), l.invariant.1))
      | else-operation_of-ne0 w ↦ (omega arith, w.reads-is ∙ l.invariant.1 ∙ sym (count_no _ l.i (is ∙ rw (eq-eqb _ _ w.if-operation_of-ne0.false))))
    ]

pub returns : goal.returns
unfolding operations_of
returns c = let a = c.args in
    let e : c.loop-i.i ≡ a.h.operations = omega arith in
    rw (length_reads a.h.operations (operation_of a.h.width a.plan.now (shape a.h))) (rw e at c.loop-i.invariant.1)
