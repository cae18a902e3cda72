-- `check` meets its contract: in a form that there is, it is Check at the form's width.
use borrow.Author.Tests.{not-true, not-false}
use mathlib.Core.Path.{sym, ◌∙◌}
use Rattle.plan.specs.Check.{check_in}
use Rattle.plan.proofs.Forms.{form_known}
use Rattle.checks.proofs.check.Goals as goal

pub returns-then-not-is_known : goal.returns-then-not-is_known
unfolding check_in
returns-then-not-is_known c = rw (sym c.is_known.ensures ∙ not-true _ c.if-not-is_known.true-raw)

pub returns : goal.returns
returns c = let a = c.args in
    let known = sym c.is_known.ensures ∙ not-false _ c.if-not-is_known.false-raw in
    rw (form_known a.form a.plan.now known, ← c.width.ensures.0) c.check_at.ensures
