-- `forged::message_at` meets its contract: the fields are parts of one number.
use Rattle.plan.proofs.Taken.{forged_in_lem}
use Rattle.tables.proofs.forged.message_at.Goals as goal

pub returns : goal.returns
returns c = let a = c.args in
    let is = c.of.ensures in
    (forged_in_lem a.width a.part.now a.at _ _ (rw c.bits.ensures at c.field.ensures.0) is, is.tick_hi, is.value_hi)
