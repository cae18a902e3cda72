-- `total` meets its contract.
use native.Mathlib.Numerals.{add-one}
use native.Mathlib.Omega.{arith}
use Rattle.records.proofs.Underway.{total_next, total_inside}
use Rattle.packing.proofs.total.Goals as goal

pub overflow_add-bits : goal.overflow_add-bits
overflow_add-bits c = let a = c.args in
    let l = c.loop-width in
    omega (arith, total_inside a.widths.now l.width-index (omega arith))

pub loop-width-preserved : goal.loop-width-preserved
loop-width-preserved c = let a = c.args in
    let l = c.loop-width in
    rw (add-one, total_next a.widths.now l.width-index (omega arith)) (omega arith)
