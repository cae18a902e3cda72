-- `sheet` meets its definition for all inputs: the refusals of answers that are not to their reads, or what is said of the page.
use mathlib.Core.Path.{sym}
use Rattle.std.proofs.lemmas.Result.{err_from_is_err_and}
use Rattle.plan.specs.Buffer.{into_buffer}
use Rattle.fitting.proofs.Passed.{form_answered}
use Rattle.sheet.specs.Sheet.{sheet_after, sheet_in}
use Rattle.sheet.proofs.sheet.Goals as goal

pub sheet_at-requires : goal.sheet_at-requires
sheet_at-requires c = let w = c.width.ensures in
    let x = c.args in
    (w.1, rw w.0 (form_answered x.form x.plan.now x.answers.now _ (sym c.in_ok-count.ensures)).1)

pub returns-in_err-count : goal.returns-in_err-count
unfolding sheet_in sheet_after into_buffer
returns-in_err-count c = let p = err_from_is_err_and c.from_residual.result c.from_residual.ensures.1 in rw (p.1, p.2, ← c.in_err-count.ensures)

pub returns : goal.returns
unfolding sheet_in
returns c = rw (← c.in_ok-count.ensures, ← c.width.ensures.0) c.sheet_at.ensures
