-- `tick::together` meets its contract. The loop's invariant: the set has the servers that a request of a party passed reaches.
use mathlib.Core.Path.{◌≡◌}
use Prim.Native.Nat.{ℕ}
use lib.ListN.{get_or}
use Rattle.register.specs.Lists.{any_up_to}
use Rattle.limits.specs.Bits.{bit}
use Rattle.cluster.proofs.tick.together.Given as goal

abbrev pub invariant-loop-p : goal.invariant-loop-p
invariant-loop-p l = (b : ℕ) → bit b l.all ≡ any_up_to l.p (λ q. bit b (get_or l.arrivals.requests q 0))
