-- `is_allowed` is what the regular register allows: each return is one case of Laws.
use mathlib.Core.Path.{◌≡◌, refl, sym, ◌∙◌}
use Prim.Native.Nat.{ℕ}
use native.Mathlib.Omega.{arith}
use lib.ListN.{get_or}
use Rattle.std.proofs.lemmas.Bool.Decides.{nat_tests}
use Rattle.register.specs.Plan.{Plan, Read}
use Rattle.regular.specs.Tables.{Tables}
use Rattle.regular.proofs.Laws.{Sought, write_at, unknown_number, other_value, is_last, too_early, later_by_end}
use Rattle.regular.proofs.Times.is_allowed.Goals.{After-last_finished-last, then-j-self, else-j-self}
use Rattle.regular.proofs.Times.is_allowed.Goals as goal

known : (c : After-last_finished-last) (w : ℕ) (P : Plan) (x : Read) → Tables w P c.args.self.now.writes.known.values c.args.self.now.writes.begun c.args.self.now.writes.known.m
    → P.delta ≡ c.args.self.now.delta → x.begun ≡ c.args.read
    → Sought w P x c.args.self.now.writes.known.values c.args.self.now.writes.begun c.args.self.now.writes.known.m c.last_finished-last.result
known c w P x W d r =
    let a = c.args in
    record { tables = W; found = c.last_finished-last.ensures.1 P x (write_at w a.self.now.writes.known.values a.self.now.writes.begun) d r (λ j. refl) }

pub returns-then-j-last : goal.returns-then-j-last
returns-then-j-last c = λ w P x l W d r. elim c.if-j-self.branch [
  | then-j-self b ↦
      let v : get_or c.args.self.now.writes.known.values c.from-j.result 0 ≡ c.args.value = grind (arith, nat_tests) in
      let e = is_last (known (goal.at.returns-then-j-last c).After-last_finished-last w P x W d r) c.args.value c.from-j.result v c.if-j-last.true in
      rw (← c.from-j.ensures) (grind (arith, nat_tests, e))
  | else-j-self b ↦ absurd (grind (arith, nat_tests))
]

pub returns-then-last-j : goal.returns-then-last-j
returns-then-last-j c = λ w P x l W d r. elim c.if-j-self.branch [
  | then-j-self b ↦
      let v : get_or c.args.self.now.writes.known.values c.from-j.result 0 ≡ c.args.value = grind (arith, nat_tests) in
      let later = later_by_end (known (goal.at.returns-then-last-j c).After-last_finished-last w P x W d r) c.args.value c.from-j.result v (omega arith) (omega arith) in
      c.is_begun_by_end.ensures ∙ rw (← c.from-j.ensures, ← d, ← r) (sym later)
  | else-j-self b ↦ absurd (grind (arith, nat_tests))
]

pub returns-else-last-j : goal.returns-else-last-j
returns-else-last-j c = λ w P x l W d r. elim c.if-j-self.branch [
  | then-j-self b ↦
      let v : get_or c.args.self.now.writes.known.values c.from-j.result 0 ≡ c.args.value = grind (arith, nat_tests) in
      let e = too_early (known (goal.at.returns-else-last-j c).After-last_finished-last w P x W d r) c.args.value c.from-j.result v (omega arith) in
      rw (← c.from-j.ensures) (grind (arith, nat_tests, e))
  | else-j-self b ↦ absurd (grind (arith, nat_tests))
]

pub returns-else-self-j : goal.returns-else-self-j
returns-else-self-j c = λ w P x l W d r.
    let K = known (goal.at.returns-else-self-j c).After-last_finished-last w P x W d r in
    elim c.if-j-self.branch [
      | then-j-self b ↦
          let e = other_value K c.args.value c.from-j.result l (λ v. grind (arith, nat_tests)) in
          rw (← c.from-j.ensures) (grind (arith, nat_tests, e))
      | else-j-self b ↦
          let e = unknown_number K c.args.value c.from-j.result l b.if-j-self.false in
          rw (← c.from-j.ensures) (grind (arith, nat_tests, e))
    ]
