-- `nibbles` meets its contract: one read, or two.
use Prim.Native.Nat.{◌*◌, ◌-◌}
use native.Mathlib.Omega.{arith}
use Rattle.tables.proofs.Sendings.{two_reads}
use Rattle.tables.proofs.sending.nibbles.Goals as goal

pub returns : goal.returns
returns c = let a = c.args in rw (c.field-2.ensures.0, c.field-3.ensures.0) (two_reads a.plan.now a.at (4 * a.n - 32) a.n (omega arith) c.requires.0)
