-- `reads::opened` meets its contract: the loop has marked the reads among the first i operations.
use mathlib.Core.Path.{refl}
use native.Mathlib.Omega.{arith}
use Rattle.plan.specs.Shape.{shape}
use Rattle.operations.proofs.Passed.{read_end, read_ends}
use Rattle.operations.proofs.Spans.{opened_none, opened_write, opened_read}
use Rattle.operations.proofs.reads.opened.Goals.{then-o-ne0, else-o-ne0}
use Rattle.operations.proofs.reads.opened.Goals as goal

pub loop-i-init : goal.loop-i-init
loop-i-init c = (refl, opened_none _ _ _ 1024)

pub mark-requires : goal.mark-requires
mark-requires c = let a = c.args in
    let o = c.operation_of-o in
    let z = read_end (shape a.h) o.result c.if-o-ne0.true in
    let e = read_ends a.h.width a.plan.now (shape a.h) c.loop-i.i o.result o.ensures c.requires.1 (omega arith) c.if-o-ne0.true in
    (c.loop-i.invariant.0, omega arith, omega arith, omega (arith, z, e, c.requires.0.ranged.ticks_hi))

pub loop-i-preserved : goal.loop-i-preserved
loop-i-preserved c = let l = c.loop-i in
    elim c.if-o-ne0.branch [
      | then-o-ne0 w ↦ (
        rw w.table-is w.mark.ensures.0,
        rw w.table-is (opened_read _ _ _ _ _ c.operation_of-o.ensures w.mark.new.table l.table w.if-o-ne0.true
            (rw (w.from.ensures, w.from-then-o-ne0.ensures, w.from-then-o-ne0-2.ensures, w.end.ensures.0, read_end (shape c.args.h) c.operation_of-o.result w.if-o-ne0.true) at w.mark.ensures.1) l.invariant.1),
      )
      | else-o-ne0 w ↦ (
        rw w.table-is l.invariant.0,
        rw w.table-is (opened_write _ _ _ _ _ c.operation_of-o.ensures l.table w.if-o-ne0.false l.invariant.1),
      )
    ]
