-- `records` meets its contract: record behind record, the first are there.
use native.Mathlib.Numerals.{add-one}
use native.Mathlib.Omega.{arith}
use Rattle.moving.proofs.Moving.{follow_none, follow_more, follow_all}
use Rattle.moving.proofs.records.Goals as goal

pub loop-init : goal.loop-init
loop-init c = follow_none _ _ _ _ _ _ _

pub loop-preserved : goal.loop-preserved
loop-preserved c = let a = c.args in
    let l = c.loop in
    let r = c.record-next.ensures in
    rw (add-one l.counter, r.1.from, r.1.to)
    (follow_more a.wanted.now a.s.now a.had.now c.requires.2 a.at.from a.at.to a.count l.invariant (omega arith) r.0)

pub returns : goal.returns
returns c = let a = c.args in
    let all = follow_all a.wanted.now a.s.now a.had.now c.requires.2 a.at.from a.at.to a.count c.loop.invariant (omega arith) in
    (all.0, record { from = all.1; to = all.2 })
