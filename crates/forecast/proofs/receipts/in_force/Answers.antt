-- `in_force` meets its contract: after t turns the table has the placements of the first t ticks.
use mathlib.Core.Path.{◌≡◌}
use native.Mathlib.Nat.{div-le_self}
use native.Mathlib.Omega.{arith}
use Rattle.plan.specs.{Header.moves, Shape.shape}
use Rattle.plan.proofs.Ranges.{movement_of}
use Rattle.forecast.proofs.Tables.{in_force_none, in_force_more}
use Rattle.forecast.proofs.receipts.in_force.Goals as goal

pub loop-t-init : goal.loop-t-init
loop-t-init c = in_force_none _ _ _

pub placement_at-at-requires : goal.placement_at-at-requires
placement_at-at-requires c = omega (arith, div-le_self c.loop-t.t c.args.h.period)

pub field-requires : goal.field-requires
unfolding moves
field-requires c = let l = c.loop-t in
    let m = movement_of c.args.h.ticks l.t c.args.h.period (omega arith) (omega arith) in
    (omega arith, omega (arith, m, c.placement_at-at.ensures), omega (arith, c.placement_at-at.ensures))

pub loop-t-preserved : goal.loop-t-preserved
loop-t-preserved c = let l = c.loop-t in
    rw c.from-in-loop-t.ensures (in_force_more c.args.h.width c.args.plan.now (shape c.args.h) l.t l.r _ (omega arith) (rw (c.placement_at-at.ensures, c.from.ensures) at c.field.ensures.0) l.invariant)

pub returns : goal.returns
returns c = let l = c.loop-t in
    let e : l.t ≡ c.args.h.ticks = omega arith in
    rw e at l.invariant
