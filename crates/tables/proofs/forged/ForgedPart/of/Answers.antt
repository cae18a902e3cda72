-- `ForgedPart::of` meets its contract: the part starts in the plan.
use Rattle.tables.proofs.Forging.{shape_ranged}
use Rattle.tables.proofs.forged.ForgedPart.of.Goals as goal

pub forgeries_at-at-requires : goal.forgeries_at-at-requires
forgeries_at-at-requires c = (shape_ranged c.args.h.width c.args.plan.now c.requires.0 c.args.h c.requires.2, c.requires.1)
