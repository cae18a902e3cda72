-- `put_fields` meets its contract.
use native.Mathlib.Numerals.{add-one}
use native.Mathlib.Omega.{arith}
use Rattle.records.proofs.Underway.{narrow_at, total_inside}
use Rattle.packing.proofs.Writing.{write_none, write_more}
use Rattle.packing.proofs.put_fields.Goals as goal

pub loop-j-init : goal.loop-j-init
loop-j-init c = write_none _ _ _ _

pub put-requires : goal.put-requires
put-requires c = let a = c.args in
    let l = c.loop-j in
    let n = narrow_at 32 a.widths.now l.j c.requires.0 (omega arith) in
    let t = total_inside a.widths.now l.j (omega arith) in
    omega arith

pub overflow_add-from : goal.overflow_add-from
overflow_add-from c = let a = c.args in
    let l = c.loop-j in
    omega (arith, total_inside a.widths.now l.j (omega arith))

pub loop-j-preserved : goal.loop-j-preserved
loop-j-preserved c = let a = c.args in
    let l = c.loop-j in
    let w = rw (c.from-width.ensures, c.from.ensures) at c.put.ensures in
    rw (add-one l.j, c.from-width.ensures) (write_more a.widths.now a.numbers.now (omega arith) l.invariant (omega arith) w)
