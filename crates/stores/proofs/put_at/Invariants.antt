-- `store::put_at` meets its contract. The loop's invariant: with what is carried put before place q the places are what they have to be.
use mathlib.Core.Path.{◌≡◌}
use Prim.Native.Nat.{◌≤◌}
use lib.ListN.{length}
use Rattle.plan.specs.Packed.{store_depth}
use Rattle.stores.specs.Stores.{put_at}
use Rattle.stores.proofs.put_at.Given as goal

abbrev pub invariant-loop-q : goal.invariant-loop-q
invariant-loop-q l = (l.q ≤ store_depth) × (length l.more ≡ store_depth) × (put_at l.q l.carried l.more ≡ put_at l.at l.initial.carried l.initial.more)
