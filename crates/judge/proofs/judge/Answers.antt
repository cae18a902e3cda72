-- `judge` meets the definition of Judge for all inputs: the refusals of answers that are not to their reads, or the verdict.
use mathlib.Core.Path.{sym}
use Rattle.std.proofs.lemmas.Result.{err_from_is_err_and}
use Rattle.fitting.proofs.Passed.{form_answered}
use Rattle.judge.proofs.Laws.{form_verdict}
use Rattle.judge.proofs.judge.Goals as goal

pub judge_answers-requires : goal.judge_answers-requires
judge_answers-requires c = let w = c.width.ensures in
    let s = c.args in
    (rw w.0 (form_answered s.form s.plan.now s.answers.now _ (sym c.in_ok-count.ensures)).1, w.1)

pub returns-in_err-count : goal.returns-in_err-count
returns-in_err-count c = let p = err_from_is_err_and c.from_residual.result c.from_residual.ensures.1 in rw (p.1, p.2, form_verdict, ← c.in_err-count.ensures)

pub returns : goal.returns
returns c = rw (form_verdict, ← c.in_ok-count.ensures, ← c.width.ensures.0, c.judge_answers.ensures)
