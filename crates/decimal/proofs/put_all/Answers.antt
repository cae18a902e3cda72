-- `put_all` meets its contract: after i turns the first i bytes are stored.
use native.Mathlib.Omega.{arith}
use Rattle.decimal.proofs.Stores.{stored_more}
use Rattle.decimal.proofs.put_all.Goals as goal

pub loop-i-preserved : goal.loop-i-preserved
loop-i-preserved c = stored_more _ (omega arith) c.loop-i.invariant c.put_byte.ensures
