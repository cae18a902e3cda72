-- `last_finished` finds the last write that finished before the read. The invariant says so of the writes passed.
-- It stands on the laws of one turn more.
use mathlib.Core.Path.{◌≡◌}
use mathlib.Core.List.{List}
use Prim.Native.Nat.{ℕ, ◌≤◌, ◌<◌}
use lib.ListN.{get_or}
use Rattle.register.specs.Plan.{Plan, Read, Write}
use Rattle.register.specs.Regular.{finished}
use Rattle.regular.specs.Tables.{Last}
use Rattle.regular.proofs.Times.last_finished.Given as goal

-- the last of the first j writes that finished
abbrev Sought : List ℕ → ℕ → ℕ → ℕ → ℕ → Type 0
Sought begun delta read j last = (P : Plan) (x : Read) (w : ℕ → Write) → P.delta ≡ delta → x.begun ≡ read
    → ((k : ℕ) → (w k).begun ≡ get_or begun k 0) → Last (λ k. finished P x (w k)) j last

abbrev pub invariant-loop-j : goal.invariant-loop-j
invariant-loop-j l = (1 ≤ l.j) × (l.last < l.j) × Sought l.self.writes.begun l.self.delta l.read l.j l.last
