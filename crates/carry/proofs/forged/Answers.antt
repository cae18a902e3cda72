-- `forged` meets its contract: the records of the part are those of the plan.
use Prim.Native.Nat.{◌/◌}
use native.Mathlib.Omega.{arith}
use Rattle.bits.specs.Layout.{records}
use Rattle.register.proofs.Lists.{part_from}
use Rattle.carry.proofs.Fields.{part_numbers}
use Rattle.carry.proofs.forged.Goals as goal

pub returns : goal.returns
returns c = let a = c.args in
    let wrote = rw (part_from (a.at.from / 8) a.plan.now, part_numbers a.plan.now a.at.from (records a.count a.had.now)) at c.records-next.ensures.0 in
    let b = c.records-next.ensures.1 in
    (wrote, record { from = omega (arith, b.from); to = b.to })
