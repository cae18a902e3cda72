-- `register_answer_bytes` meets its contract: 0 where there is no such form.
use mathlib.Core.Path.{◌≡◌, sym, ap, ◌∙◌}
use mathlib.Core.Bool.{true, false}
use Prim.Native.Nat.{ℕ}
use borrow.Author.Tests.{not-true, not-false}
use Rattle.plan.specs.Form.{is_form, width_of}
use Rattle.answers.specs.Answers.{answer_size}
use Rattle.capi.specs.Exported.{answer_bytes_in}
use Rattle.capi.proofs.register_answer_bytes.Goals as goal

none : (form : ℕ) → is_form form ≡ false → 0 ≡ answer_bytes_in form
none form e = rw e

some : (form size : ℕ) → is_form form ≡ true → size ≡ answer_size (width_of form) → size ≡ answer_bytes_in form
some form size e f = rw e f

pub returns-then-not-is_known : goal.returns-then-not-is_known
returns-then-not-is_known c = none c.args.form (sym c.is_known.ensures ∙ not-true _ c.if-not-is_known.true-raw)

pub returns : goal.returns
returns c = some c.args.form c.size.result (sym c.is_known.ensures ∙ not-false _ c.if-not-is_known.false-raw)
    (c.size.ensures ∙ ap answer_size c.width.ensures.0)
