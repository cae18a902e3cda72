-- `forgeries::Forged::of` meets its contract.
use mathlib.Core.Path.{sym}
use native.Mathlib.Omega.{arith}
use Rattle.plan.proofs.Sizes.{narrow_value}
use Rattle.plan.proofs.Taken.{forgery_parts}
use borrow.Author.Rules.{rules}
use Rattle.plan.proofs.forgeries.Forged.of.Goals as goal

pub overflow_cast-result-4 : goal.overflow_cast-result-4
overflow_cast-result-4 c = omega (arith, narrow_value _ _ (omega arith) c.part-4.ensures.1)

pub returns : goal.returns
returns c = record {
  is =
      rw (
        c.part-5.ensures.0,
        c.part-4.ensures.0,
        c.part-3.ensures.0,
        c.part-2.ensures.0,
        c.part.ensures.0,
        c.from-value.ensures,
      )
      (sym (forgery_parts _ _));
  tick_hi = search rules;
  sender_hi = search rules;
  receiver_hi = search rules;
  value_hi = rw c.from-value.ensures at c.part-4.ensures.1;
}
