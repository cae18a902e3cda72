-- `header::Shape::moves` meets its contract.
use mathlib.Core.Path.{◌∙◌}
use native.Mathlib.Omega.{arith}
use Rattle.plan.specs.Header.{moves}
use Rattle.plan.proofs.Laws.{moves_few, rounded_up}
use Rattle.plan.proofs.header.Shape.moves.Goals as goal

pub returns : goal.returns
unfolding moves
returns c = let a = c.args.self in
    let e = rw (c.from.ensures, c.from-2.ensures) at c.div_ceil.ensures ∙ rounded_up a.ticks a.period (omega arith) in
    (e, omega (arith, e, moves_few a.ticks a.period (omega arith)))
