-- `answered` meets its definition for all inputs: Check's refusals, or what the answers to an accepted plan get.
use mathlib.Core.Path.{sym}
use Rattle.std.proofs.lemmas.Result.{err_from_is_err_and}
use Rattle.plan.proofs.Forms.{form_passed}
use Rattle.fitting.specs.Answered.{answered_after, answered_in}
use Rattle.fitting.proofs.answered.Goals as goal

pub answered_at-requires : goal.answered_at-requires
answered_at-requires c = let w = c.width.ensures in
    let s = c.args in
    (rw w.0 (form_passed s.form s.plan.now _ (sym c.in_ok-count.ensures)).1, w.1)

pub returns-in_err-count : goal.returns-in_err-count
unfolding answered_in answered_after
returns-in_err-count c = let p = err_from_is_err_and c.from_residual.result c.from_residual.ensures.1 in rw (p.1, p.2, ← c.in_err-count.ensures)

pub returns : goal.returns
unfolding answered_in
returns c = rw (← c.in_ok-count.ensures, ← c.width.ensures.0) c.answered_at.ensures
