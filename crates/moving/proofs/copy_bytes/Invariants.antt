-- `copy_bytes` meets its contract: byte behind byte, the first bits are there.
use Prim.Native.Nat.{◌*◌}
use Rattle.moving.proofs.Moving.{Copying}
use Rattle.moving.proofs.copy_bytes.Given as goal

abbrev pub invariant-loop-k : goal.invariant-loop-k
invariant-loop-k l = Copying l.initial.out l.out l.s l.at.from l.at.to (8 * l.count) (8 * l.k)
