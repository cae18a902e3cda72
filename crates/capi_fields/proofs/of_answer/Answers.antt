-- `of_answer` meets its contract: the answer is that of the part that starts with it.
use mathlib.Core.Path.{◌≡◌, sym, ap, ◌∙◌}
use mathlib.Core.Bool.{true}
use mathlib.Core.List.{List}
use Prim.Native.Nat.{ℕ, ◌+◌, ◌*◌, ◌-◌, ◌≤◌}
use native.Mathlib.Omega.{arith}
use lib.ListN.{length, get_or, take, drop}
use lib.Seq.{get_or-take}
use borrow.Author.Tests.{not-true, not-false}
use Rattle.plan.specs.Form.{is_form}
use Rattle.answers.specs.Answers.{answer_size, answer_numbers}
use Rattle.capi_fields.proofs.Laws.{no_field, answer_of_part, answer_there, part_there, answer_unknown, answer_none, answer_field_lem}
use Rattle.capi_fields.proofs.of_answer.Goals.{Else-field-ge-ZERO, Else-not-is_known}
use Rattle.capi_fields.proofs.of_answer.Goals as goal

-- the answer lies in the buffer
positive : (size w : ℕ) → size ≡ answer_size w → 1 ≤ size
positive size w e = rw e (omega arith)

-- behind the first test: the form is known, and so are its bits and bytes
known : (c : Else-not-is_known) → is_form c.args.form ≡ true
known c = sym c.is_known.ensures ∙ not-false _ c.if-not-is_known.false-raw

there : (c : Else-field-ge-ZERO) → c.size-size.result * c.args.i + c.size-size.result
    ≤ length c.args.answers.now
there c = answer_there _ _ _ (positive _ _ c.size-size.ensures) c.if-answers-size.false

pub returns-then-not-is_known : goal.returns-then-not-is_known
returns-then-not-is_known c = answer_unknown _ _ _ _ (sym c.is_known.ensures ∙ not-true _ c.if-not-is_known.true-raw)

pub returns-then-answers-size : goal.returns-then-answers-size
returns-then-answers-size c = answer_none _ _ _ _ _ _ (known (goal.at.returns-then-answers-size c).Else-not-is_known) c.width-width.ensures.0 c.size-size.ensures c.if-answers-size.true

pub returns-then-field-ge-ZERO : goal.returns-then-field-ge-ZERO
returns-then-field-ge-ZERO c = let a = c.args in
    answer_field_lem _ _ _ _ _ _ (known (goal.at.returns-then-field-ge-ZERO c).Else-not-is_known) c.width-width.ensures.0 c.size-size.ensures 0
    c.if-answers-size.false (no_field 5 (answer_numbers c.width-width.result a.answers.now a.i) _ c.if-field-ge-ZERO.true)

pub overflow_mul-size : goal.overflow_mul-size
overflow_mul-size c = omega (arith, there (goal.at.overflow_mul-size c).Else-field-ge-ZERO)

pub slice_bounds-field-count : goal.slice_bounds-field-count
slice_bounds-field-count c = omega (arith, there (goal.at.slice_bounds-field-count c).Else-field-ge-ZERO)

pub field-requires : goal.field-requires
field-requires c = (rw (← c.size-size.ensures) (part_there _ _ c.args.answers.now (there (goal.at.field-requires c).Else-field-ge-ZERO)), omega arith, c.width-width.ensures.1)

pub returns : goal.returns
returns c = let a = c.args in
    let size = c.size-size.ensures in
    let w = c.width-width.result in
    let moved : (n : ℕ) → n ≡ answer_size w → answer_numbers w (take (length a.answers.now - n * a.i) (drop (n * a.i) a.answers.now)) 0 ≡ answer_numbers w a.answers.now a.i =
    λ n e. rw e (answer_of_part w a.answers.now a.i) in
    answer_field_lem _ _ _ _ _ _ (known (goal.at.returns c).Else-not-is_known) c.width-width.ensures.0 size c.field.result c.if-answers-size.false
    (c.field.ensures.0
    ∙ ap (λ (x : List ℕ). get_or x a.field 0) (moved _ size)
    ∙ sym (get_or-take 5 (answer_numbers w a.answers.now a.i) a.field 0 (omega arith)))
