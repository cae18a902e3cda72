-- `tick::asks_at` meets its contract. The loop's invariant: the set has the readers passed whose READ reaches the server.
use mathlib.Core.Path.{◌≡◌}
use mathlib.Core.Bool.{◌&&◌}
use Prim.Native.Nat.{ℕ}
use lib.Dec.{ltb}
use lib.ListN.{get_or}
use Rattle.limits.specs.Bits.{bit}
use Rattle.cluster.proofs.tick.asks_at.Given as goal

abbrev pub invariant-loop-x : goal.invariant-loop-x
invariant-loop-x l = (k : ℕ) → bit k l.readers ≡ ltb k l.x && (ltb 0 k && bit l.b (get_or l.requests k 0))
