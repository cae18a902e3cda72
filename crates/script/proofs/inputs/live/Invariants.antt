-- `inputs::live` meets its contract. The loop's invariant: the set has the readers passed whose read did not begin in the tick before.
use mathlib.Core.Path.{◌≡◌}
use mathlib.Core.Bool.{not, ◌&&◌}
use Prim.Native.Nat.{ℕ, ◌+◌, ◌*◌, ◌-◌}
use lib.Dec.{eqb, ltb}
use lib.ListN.{get_or}
use Rattle.limits.specs.Bits.{bit}
use Rattle.script.proofs.inputs.live.Given as goal

abbrev pub invariant-loop-x : goal.invariant-loop-x
invariant-loop-x l = (k : ℕ) → bit k l.readers ≡ ltb k l.x && (ltb 0 k && not (eqb (get_or l.ends (k - 1) 0 + 1) (l.t + 2 * l.delta)))
