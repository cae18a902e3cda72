-- `forgeries::all_stand` meets its contract: the part of the plan is handed on with its offset.
use Prim.Native.Nat.{◌/◌}
use Rattle.register.proofs.Lists.{part_from}
use Rattle.forgeries.proofs.all_stand.Goals as goal

pub all_in-requires : goal.all_in-requires
all_in-requires c = let a = c.args in
    let from = c.forgeries_at-first.result / 8 in (
      c.requires.0,
      c.requires.1,
      c.opened-table.ensures.0,
      c.opened-table.ensures.1,
      record {
        bytes = rw (part_from from a.plan.now, c.forgeries_at-first.ensures.0);
        first = rw c.forgeries_at-first.ensures.0;
      },
    )
