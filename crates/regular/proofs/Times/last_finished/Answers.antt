-- `last_finished` finds the last write that finished before the read. The invariant says so of the writes passed.
-- It stands on the laws of one turn more.
use mathlib.Core.Path.{◌≡◌, sym, ◌∙◌}
use native.Mathlib.Omega.{arith}
use borrow.Author.Rules.{rules}
use Rattle.register.specs.Regular.{finished}
use Rattle.regular.proofs.Steps.{last_none, last_taken, last_left}
use Rattle.regular.proofs.Times.last_finished.Goals.{then-is_finished, else-is_finished}
use Rattle.regular.proofs.Times.last_finished.Goals as goal

pub loop-j-init : goal.loop-j-init
loop-j-init c = (search rules, search rules, λ P x w d b e. last_none (λ j. finished P x (w j)))

pub loop-j-preserved : goal.loop-j-preserved
loop-j-preserved c = let h = c.loop-j in
    let t = c.is_finished in
    elim c.if-is_finished.branch [
      | then-is_finished g ↦ (
        omega arith,
        omega arith,
        λ P x w d b e.
            rw g.last-is (last_taken (λ k. finished P x (w k)) h.j (sym (t.ensures P x (w h.j) d b (e h.j)) ∙ g.if-is_finished.true)),
      )
      | else-is_finished g ↦ (
        omega arith,
        omega arith,
        λ P x w d b e.
            rw g.last-is (last_left (λ k. finished P x (w k)) h.j h.last (sym (t.ensures P x (w h.j) d b (e h.j)) ∙ g.if-is_finished.false) (h.invariant.2 P x w d b e)),
      )
    ]

pub returns : goal.returns
returns c = let e : c.loop-j.j ≡ c.args.self.now.writes.known.m = omega arith in
    (omega arith, rw e at c.loop-j.invariant.2)
