use mathlib.Core.Path.{◌≡◌}
use Prim.Native.Nat.{◌*◌}
use Rattle.bits.specs.Field.{field_of}
use Rattle.bits.proofs.bytes_from.Given as goal

abbrev pub invariant-loop-k : goal.invariant-loop-k
invariant-loop-k l = (l.acc ≡ field_of l.s (8 * l.b) (8 * l.k))
