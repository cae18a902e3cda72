-- `are_final_bits_zero` meets its contract.
use Rattle.plan.specs.Check.{final_bits_zero}
use Rattle.delays.proofs.are_final_bits_zero.Goals as goal

pub returns : goal.returns
unfolding final_bits_zero
returns c = rw (c.field.ensures.0, c.fill.ensures, c.bits-end.ensures.0)
