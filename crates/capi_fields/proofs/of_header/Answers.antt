-- `of_header` meets its contract.
use mathlib.Core.Path.{◌≡◌, sym, ◌∙◌}
use mathlib.Core.Bool.{true}
use native.Mathlib.Omega.{arith}
use lib.Seq.{get_or-take}
use borrow.Author.Tests.{le-leb, not-true, not-false}
use Rattle.bits.specs.Layout.{numbers_at}
use Rattle.records.specs.Records.{no_wider}
use Rattle.plan.specs.Form.{is_form}
use Rattle.plan.specs.Widths.{header_widths}
use Rattle.capi_fields.proofs.Laws.{no_field, header_unknown, header_none, header_field_lem}
use Rattle.capi_fields.proofs.of_header.Goals.{Else-not-is_known}
use Rattle.capi_fields.proofs.of_header.Goals as goal

-- behind the first test: the form is known, and so are its bits and bytes
known : (c : Else-not-is_known) → is_form c.args.form ≡ true
known c = sym c.is_known.ensures ∙ not-false _ c.if-not-is_known.false-raw

pub returns-then-not-is_known : goal.returns-then-not-is_known
returns-then-not-is_known c = header_unknown _ _ _ (sym c.is_known.ensures ∙ not-true _ c.if-not-is_known.true-raw)

pub returns-then-plan-header_bytes : goal.returns-then-plan-header_bytes
returns-then-plan-header_bytes c = header_none _ _ _ _ _ (known (goal.at.returns-then-plan-header_bytes c).Else-not-is_known) c.width-width.ensures.0 c.header_bytes.ensures c.if-plan-header_bytes.true

pub returns-then-field-ge-HEADER_ZERO : goal.returns-then-field-ge-HEADER_ZERO
returns-then-field-ge-HEADER_ZERO c = let a = c.args in
    header_field_lem _ _ _ _ _ (known (goal.at.returns-then-field-ge-HEADER_ZERO c).Else-not-is_known) c.width-width.ensures.0 c.header_bytes.ensures 0
    c.if-plan-header_bytes.false (no_field 9 (numbers_at (header_widths c.width-width.result) a.plan.now 0) _ c.if-field-ge-HEADER_ZERO.true)

pub field-requires : goal.field-requires
unfolding no_wider
field-requires c = let e = c.header_widths-widths.ensures in
    rw e (record { inside = omega (arith, c.header_bytes.ensures); near = omega arith; narrow = rw (le-leb c.width-width.result 32 (omega arith)) tt })

pub returns : goal.returns
returns c = let a = c.args in
    let read = rw c.header_widths-widths.ensures at c.field.ensures.0 in
    header_field_lem _ _ _ _ _ (known (goal.at.returns c).Else-not-is_known) c.width-width.ensures.0 c.header_bytes.ensures c.field.result c.if-plan-header_bytes.false
    (read ∙ sym (get_or-take 9 (numbers_at (header_widths c.width-width.result) a.plan.now 0) a.field 0 (omega arith)))
