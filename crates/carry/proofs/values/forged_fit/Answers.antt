-- `values::forged_fit` meets its contract: the fields of the part are those of the plan.
use Prim.Native.Nat.{◌/◌}
use Rattle.register.proofs.Lists.{part_from}
use Rattle.carry.proofs.Fields.{part_values}
use Rattle.carry.proofs.values.forged_fit.Goals as goal

pub returns : goal.returns
returns c = let a = c.args in
    rw (part_from (a.first / 8) a.plan.now, part_values a.plan.now a.first a.fields.at a.fields.step a.fields.count a.fields.width a.limit) at c.values_fit.ensures
