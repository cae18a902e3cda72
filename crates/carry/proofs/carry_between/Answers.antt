-- `carry_between` meets its contract: Check's refusals, or how carrying an accepted plan ends.
use mathlib.Core.Path.{◌∙◌, sym}
use borrow.Author.Rules.{rules}
use Rattle.std.proofs.lemmas.Result.{err_from_is_err_and}
use Rattle.plan.specs.Form.{width_of}
use Rattle.plan.proofs.Forms.{form_known}
use Rattle.plan.proofs.Accept.{playable}
use Rattle.carrying.proofs.Carrying.{keeps_refusal, after_check}
use Rattle.carry.proofs.carry_between.Goals as goal

pub returns-in_err-check : goal.returns-in_err-check
returns-in_err-check c = let a = c.args in
    let p = err_from_is_err_and c.from_residual.result c.from_residual.ensures.1 in
    rw (p.1, p.2) (sym (keeps_refusal (width_of a.from) (width_of a.to) a.plan.now _ (sym (form_known a.from a.plan.now c.requires) ∙ sym c.in_err-check.ensures) a.out.now))

pub carry_at-requires : goal.carry_at-requires
carry_at-requires c = let a = c.args in
    let e = sym (form_known a.from a.plan.now c.requires) ∙ sym c.in_ok-check.ensures in
    (rw c.width.ensures.0 (playable (width_of a.from) a.plan.now _ e), search rules, search rules)

pub returns : goal.returns
returns c = let a = c.args in
    let e = sym (form_known a.from a.plan.now c.requires) ∙ sym c.in_ok-check.ensures in
    let done = rw (c.width.ensures.0, c.width-2.ensures.0) at c.carry_at.ensures in
    rw (after_check (width_of a.from) (width_of a.to) a.plan.now a.out.now _ e) done
