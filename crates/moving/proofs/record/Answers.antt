-- `record` meets its contract: field behind field, the first numbers are there.
use native.Mathlib.Omega.{arith}
use native.Mathlib.Numerals.{add-one}
use Rattle.records.proofs.Underway.{narrow_at, total_inside}
use Rattle.moving.proofs.Moving.{move_none, move_more, move_all}
use Rattle.moving.proofs.record.Goals as goal

pub loop-j-init : goal.loop-j-init
loop-j-init c = move_none _ _ _ _ _ _

pub field-requires : goal.field-requires
field-requires c = let l = c.loop-j in
    let narrow = narrow_at 32 c.args.had.now l.j c.requires.0.narrow (omega arith) in
    let inside = total_inside c.args.had.now l.j (omega arith) in
    omega arith

pub put-requires : goal.put-requires
put-requires c = let l = c.loop-j in
    let narrow = narrow_at 32 c.args.wanted.now l.j c.requires.1.narrow (omega arith) in
    let inside = total_inside c.args.wanted.now l.j (omega arith) in
    omega arith

pub overflow_add-from : goal.overflow_add-from
overflow_add-from c = let a = c.args in
    let l = c.loop-j in
    omega (arith, total_inside a.had.now l.j (omega arith))

pub overflow_add-to : goal.overflow_add-to
overflow_add-to c = let a = c.args in
    let l = c.loop-j in
    omega (arith, total_inside a.wanted.now l.j (omega arith))

pub loop-j-preserved : goal.loop-j-preserved
loop-j-preserved c = let a = c.args in
    let l = c.loop-j in
    let w = rw (c.field.ensures.0, c.from-read.ensures, c.from-written.ensures) at c.put.ensures in
    rw (add-one l.j, c.from-read.ensures, c.from-written.ensures) (move_more a.wanted.now a.s.now a.had.now c.requires.2 l.invariant (omega arith) w)

pub returns : goal.returns
returns c = let a = c.args in
    let all = move_all a.wanted.now a.s.now a.had.now c.requires.2 c.loop-j.invariant (omega arith) in
    (all.0, record { from = all.1; to = all.2 })
