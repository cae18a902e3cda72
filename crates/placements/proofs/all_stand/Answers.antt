-- `placements::all_stand` meets its contract: the loop has passed the first i placements.
use mathlib.Core.Path.{◌∙◌, sym}
use native.Mathlib.Omega.{arith}
use borrow.Author.Tests.{not-true, not-false}
use Rattle.plan.specs.Header.{moves}
use Rattle.plan.specs.Shape.{shape}
use Rattle.plan.specs.Check.{placement_stands, placements_stand}
use Rattle.plan.proofs.Laws.{all_end, all_none, all_more, all_stop}
use Rattle.placements.proofs.all_stand.Goals as goal

pub loop-i-init : goal.loop-i-init
loop-i-init c = all_none _

pub returns-then-not-stands : goal.returns-then-not-stands
unfolding placements_stand
returns-then-not-stands c = let a = c.args in
    let l = c.loop-i in
    sym (all_stop (placement_stands a.h.width a.plan.now (shape a.h)) l.i (moves (shape a.h)) (omega arith) (sym c.stands.ensures ∙ not-true _ c.if-not-stands.true-raw))

pub loop-i-preserved : goal.loop-i-preserved
loop-i-preserved c = all_more _ _ c.loop-i.invariant (sym c.stands.ensures ∙ not-false _ c.if-not-stands.false-raw)

pub returns : goal.returns
unfolding placements_stand
returns c = let a = c.args in
    let l = c.loop-i in
    all_end (placement_stands a.h.width a.plan.now (shape a.h)) l.i (moves (shape a.h)) (omega arith) (omega arith) l.invariant
