-- `rehearse` meets its contracts: each way that it ends is its definition's, and a no is not among them.
use mathlib.Core.Path.{◌≡◌, refl, sym, ap, ◌∙◌}
use mathlib.Core.Bool.{true}
use Prim.Native.Nat.{◌*◌, ◌≤◌}
use native.Mathlib.Omega.{arith}
use lib.ListN.{length}
use lib.Seq.{length-take-le}
use Rattle.std.proofs.Common.{Ok}
use Rattle.std.proofs.lemmas.Result.{err_from_is_err_and}
use Rattle.plan.specs.Form.{width_of}
use Rattle.answers.specs.Answers.{answer_size}
use Rattle.rehearse.proofs.RehearseCases.{is_yes, no_refusal, same_verdict, play_room, rehearse_refused, rehearse_yes, judge_at}
use Rattle.rehearse.proofs.rehearse.Goals.{After-size, After-judge}
use Rattle.rehearse.proofs.rehearse.Goals as goal

sized : (c : After-size) → c.size.result ≡ answer_size (width_of c.args.form)
sized c = c.size.ensures ∙ ap answer_size c.width.ensures.0

-- the room that the answers have, in the form's bytes
room : (c : After-size) → c.size.result * c.in_ok-reads.reads ≤ length c.args.answers.now
room c = rw (sized c) (play_room _ _ _ _ _ c.in_ok-reads.ensures.work_after _ refl).2

-- Judge says yes
yes : (c : After-judge) → c.judge.result ≡ Ok true
yes c = let x = c.in_ok-reads.ensures in
    is_yes _ (rw (sized (goal.at.After-judge c).After-size) at c.judge.ensures ∙ judge_at _ _ _ _ _ x.work_after _ refl _ ∙ x.promised.judged _ refl)

pub overflow_mul-end : goal.overflow_mul-end
overflow_mul-end c = omega (arith, room (goal.at.overflow_mul-end c).After-size)

pub slice_bounds-judge-end : goal.slice_bounds-judge-end
slice_bounds-judge-end c = omega (arith, room (goal.at.slice_bounds-judge-end c).After-size, c.play.auto.answers)

pub slice_bounds-judge-end-2 : goal.slice_bounds-judge-end-2
slice_bounds-judge-end-2 c = let x = c.play in
    sym (length-take-le (c.size.result * c.in_ok-reads.reads) x.new.answers (omega (arith, room (goal.at.slice_bounds-judge-end-2 c).After-size, x.auto.answers)))

pub returns-in_err-reads-clause-work_after : goal.returns-in_err-reads-clause-work_after
returns-in_err-reads-clause-work_after c = let p = err_from_is_err_and c.from_residual.result c.from_residual.ensures.1 in
    rw (p.1, p.2) (rehearse_refused _ _ _ _ _ c.in_err-reads.ensures.work_after _ refl)

pub returns-in_err-verdict : goal.returns-in_err-verdict
returns-in_err-verdict c = absurd (no_refusal (sym c.in_err-verdict.was ∙ yes (goal.at.returns-in_err-verdict c).After-judge))

pub returns : goal.returns
returns c = let x = c.in_ok-reads.ensures in
    let v : c.in_ok-verdict.verdict ≡ true = same_verdict (sym c.in_ok-verdict.was ∙ yes (goal.at.returns c).After-judge) in
    rw (c.then_some.ensures, v) (record { work_after = rehearse_yes _ _ _ _ _ x.work_after _ refl (x.promised.judged _ refl); not_no = record { never = λ q. cc } })
