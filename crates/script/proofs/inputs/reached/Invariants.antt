-- `inputs::reached` meets its contract. The loop's invariant: the parties passed have their words.
use mathlib.Core.Path.{◌≡◌}
use Prim.Native.Nat.{ℕ, ◌<◌}
use lib.ListN.{length, get_or}
use Rattle.requests.specs.Requests.{reached_of}
use Rattle.cluster.specs.Inputs.{requesters}
use Rattle.script.proofs.inputs.reached.Given as goal

abbrev pub invariant-loop-p : goal.invariant-loop-p
invariant-loop-p l = (length l.reached ≡ requesters) × ((k : ℕ) → k < l.p → get_or l.reached k 0 ≡ reached_of l.work l.t k)
