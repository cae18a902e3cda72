-- `placements::stands` meets its contract: the ones are counted by the machine.
use borrow.Author.Tests.{lt-leb, le-leb}
use Rattle.plan.specs.Header.{placement_at}
use Rattle.plan.specs.Check.{placement_stands}
use Rattle.plan.specs.Parts.{in_placement}
use Rattle.placements.proofs.Ones.{ones_field}
use Rattle.placements.proofs.stands.Goals as goal

pub returns-then-field-from : goal.returns-then-field-from
unfolding placement_stands in_placement
returns-then-field-from c = let a = c.args in
    let e = rw (c.placement_at-at.ensures, c.from-n.ensures) at c.field.ensures.0 in
    let d = rw (c.placement_at-at.ensures, c.from-n.ensures) at c.field-then-field-from.ensures.0 in
    rw (← ones_field a.plan.now (placement_at a.h.width a.i) a.h.n, ← e, ← c.from.ensures, le-leb _ _ c.if-field-from.true, ← d)

pub returns-else-field-from : goal.returns-else-field-from
unfolding placement_stands in_placement
returns-else-field-from c = let a = c.args in
    let e = rw (c.placement_at-at.ensures, c.from-n.ensures) at c.field.ensures.0 in
    rw (← ones_field a.plan.now (placement_at a.h.width a.i) a.h.n, ← e, ← c.from.ensures, lt-leb _ _ c.if-field-from.false)
