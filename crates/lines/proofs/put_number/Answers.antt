-- `put_number` meets its contract: the digits, then the byte.
use native.Mathlib.Omega.{arith}
use Rattle.decimal.proofs.Stores.{stored_then}
use Rattle.lines.proofs.put_number.Goals as goal

pub returns : goal.returns
returns c = let byte = c.put_byte.ensures in
    record { fact = stored_then c.put-end.ensures.stored byte; r_bound = omega (arith, c.put-end.ensures.upper_bound, byte.next_is) }
