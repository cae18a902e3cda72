-- `operation_of` meets its contract: the operation lies in the plan.
use native.Mathlib.Omega.{arith}
use Rattle.plan.specs.Shape.{shape}
use Rattle.operations.proofs.Inside.{operation_inside}
use Rattle.operations.proofs.operation_of.Goals as goal

pub read-requires : goal.read-requires
read-requires c = let a = c.args in
    let inside = operation_inside a.h.width a.plan.now (shape a.h) c.requires.0 a.i c.requires.2 in
    rw (c.operation_bits.ensures, c.requires.1) (omega (arith, inside.0), omega (arith, inside.1), c.requires.0.narrow)
