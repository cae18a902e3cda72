-- `has_concurrent` is whether a write is concurrent: it looks at the first one behind the last finished one.
use mathlib.Core.Path.{◌≡◌, refl, sym, ◌∙◌}
use mathlib.Core.List.{List}
use Prim.Native.Nat.{ℕ}
use native.Mathlib.Numerals.{add-one}
use native.Mathlib.Omega.{arith}
use Rattle.std.proofs.lemmas.Bool.Decides.{nat_tests}
use Rattle.register.specs.Plan.{Plan, Read}
use Rattle.regular.specs.Tables.{Tables}
use Rattle.regular.proofs.Laws.{Sought, write_at, none_concurrent, next_concurrent}
use Rattle.regular.proofs.Times.has_concurrent.Goals.{After-last_finished-next}
use Rattle.regular.proofs.Times.has_concurrent.Goals as goal

known : (c : After-last_finished-next) (w : ℕ) (P : Plan) (x : Read) (values : List ℕ) → Tables w P values c.args.self.now.writes.begun c.args.self.now.writes.known.m
    → P.delta ≡ c.args.self.now.delta → x.begun ≡ c.args.read
    → Sought w P x values c.args.self.now.writes.begun c.args.self.now.writes.known.m c.last_finished-next.result
known c w P x values W d r =
    record { tables = W; found = c.last_finished-next.ensures.1 P x (write_at w values c.args.self.now.writes.begun) d r (λ j. refl) }

pub returns-then-next-self : goal.returns-then-next-self
returns-then-next-self c = λ w P x values W d r.
    let next = next_concurrent (known (goal.at.returns-then-next-self c).After-last_finished-next w P x values W d r) (omega arith) in
    c.is_begun_by_end.ensures ∙ rw (← d, ← r, add-one c.last_finished-next.result) (sym next)

pub returns-else-next-self : goal.returns-else-next-self
returns-else-next-self c = λ w P x values W d r.
    let none = none_concurrent (known (goal.at.returns-else-next-self c).After-last_finished-next w P x values W d r) (omega arith) in
    grind (arith, nat_tests, none)
