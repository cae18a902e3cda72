-- `put_fault_line` meets its contract.
use native.Mathlib.Omega.{arith}
use Rattle.decimal.proofs.Stores.{stored_then}
use Rattle.arguments.specs.Arguments.{fault_line}
use Rattle.arguments.proofs.Laws.{fault_short}
use Rattle.arguments.proofs.put_fault_line.Goals as goal

pub put_all-requires : goal.put_all-requires
put_all-requires c = omega (arith, c.put_fault-at.ensures.next_is, c.put_all-at.ensures.next_is, fault_short c.args.fault c.args.word.now)

pub returns : goal.returns
unfolding fault_line
returns c = stored_then c.put_all-at.ensures (stored_then c.put_fault-at.ensures c.put_all.ensures)
