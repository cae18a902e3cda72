-- `header::Shape::bytes` meets its contract.
use Rattle.plan.proofs.header.Shape.bytes.Goals as goal

pub returns : goal.returns
returns c = rw (← c.bits.ensures.0) c.bytes_for.ensures
