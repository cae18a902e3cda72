-- `tick::has` meets its contract.
use native.Mathlib.Nat.{add-zero}
use Prim.Native.Nat.{ℕ}
use mathlib.Core.Path.{ap, ◌∙◌}
use Rattle.limits.proofs.Bits.{bit_shift}
use Rattle.limits.specs.Bits.{bit}
use Rattle.cluster.proofs.tick.has.Goals as goal

pub returns : goal.returns
unfolding bit
returns c = let a = c.args in bit_shift 0 a.b a.set ∙ ap (λ (k : ℕ). bit k a.set) (add-zero a.b)
