use Prim.Native.Nat.{◌-◌, ◌*◌, ◌/◌, ◌^◌}
use Rattle.bits.specs.Layout.{bits_of}
use Rattle.bits.specs.Writing.{Wrote}
use Rattle.bits.proofs.put_bytes.Given as goal

abbrev pub invariant-loop-k : goal.invariant-loop-k
invariant-loop-k l = Wrote l.initial.out l.out (8 * l.b) (bits_of (8 * l.k) (l.value / 2 ^ (8 * (l.n - l.k))))
