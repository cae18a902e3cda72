-- `header::Shape::header_bytes` meets its contract.
use Rattle.plan.proofs.header.Shape.header_bytes.Goals as goal

pub returns : goal.returns
returns c = rw (← c.header_bits.ensures) c.bytes_for.ensures
