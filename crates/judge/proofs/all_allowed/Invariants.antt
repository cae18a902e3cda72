-- `all_allowed` tests every answer's pair. The invariant: all answers passed are allowed, in every plan that the tables say.
use mathlib.Core.Path.{◌≡◌}
use mathlib.Core.Bool.{Bool, true}
use mathlib.Core.List.{List}
use Prim.Native.Nat.{ℕ, ◌<◌}
use Rattle.register.specs.Lists.{all_up_to}
use Rattle.register.specs.Plan.{Plan}
use Rattle.register.specs.Regular.{allowed}
use Rattle.answers.specs.Answers.{begin_in, pair_in}
use Rattle.results.specs.Judge.{read_of}
use Rattle.regular.specs.Tables.{Tables}
use Rattle.regular.specs.declared.Times.{Times}
use Rattle.judge.proofs.all_allowed.Given as goal

-- answer i is allowed
abbrev pub allowed_at : ℕ → Plan → List ℕ → ℕ → Bool
allowed_at w P answers i = allowed P (read_of P i) (pair_in w answers i)

-- the reads of a plan begin as the answers say
abbrev pub Begun : ℕ → Plan → List ℕ → ℕ → Type 0
Begun w P answers count = (i : ℕ) → i < count → (read_of P i).begun ≡ begin_in w answers i

abbrev pub Passed : List ℕ → ℕ → Times → ℕ → ℕ → Type 0
Passed answers width times count i =
    (P : Plan) → Tables width P times.writes.known.values times.writes.begun times.writes.known.m → P.delta ≡ times.delta → Begun width P answers count → all_up_to i (allowed_at width P answers) ≡ true

abbrev pub invariant-loop-i : goal.invariant-loop-i
invariant-loop-i l = Passed l.answers l.width l.times l.count l.i
