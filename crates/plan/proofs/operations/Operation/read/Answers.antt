-- `operations::Operation::read` meets its contract: the fields are parts of one number.
use mathlib.Core.Path.{ap, sym, ◌∙◌}
use native.Mathlib.Omega.{arith}
use Rattle.bits.specs.Field.{field_of}
use Rattle.bits.specs.Layout.{numbers_in}
use Rattle.plan.proofs.Sizes.{narrow_value}
use Rattle.bits.proofs.Numbers.{numbers_in_lem}
use Rattle.plan.specs.Widths.{operation_widths}
use Rattle.plan.specs.Parts.{operation_from}
use Rattle.plan.proofs.Taken.{operation_parts}
use borrow.Author.Rules.{rules}
use Rattle.plan.proofs.operations.Operation.read.Goals as goal

pub overflow_cast-result-3 : goal.overflow_cast-result-3
overflow_cast-result-3 c = omega (arith, narrow_value _ _ (omega arith) c.part-3.ensures.1)

pub returns : goal.returns
returns c = let a = c.args in
    let all = c.field-all in
    record {
      is =
          rw (c.part-3.ensures.0, c.part-2.ensures.0, c.part.ensures.0, c.from-value.ensures)
          (sym (operation_parts a.width all.result) ∙ ap operation_from (ap (numbers_in (operation_widths a.width)) (all.ensures.0 ∙ ap (field_of a.plan.now a.at) c.bits.ensures) ∙ sym (numbers_in_lem (operation_widths a.width) a.plan.now a.at)));
      tick_hi = search rules;
      party_hi = search rules;
      value_hi = rw c.from-value.ensures at c.part-3.ensures.1;
    }
