-- `arrivals::most` meets its contract: the messages of the forged part follow from what Check accepts; the rest is Arriving.
use mathlib.Core.Path.{refl, ◌∙◌}
use Rattle.tables.proofs.Forging.{shape_ranged, legible}
use Rattle.forecast.proofs.Arriving.{most_arriving}
use Rattle.forecast.proofs.arrivals.most.Goals as goal

pub links_of-requires : goal.links_of-requires
links_of-requires c = (shape_ranged c.args.h.width c.args.plan.now c.requires.0 c.args.h c.requires.2, c.requires.1)

pub counted-table-requires : goal.counted-table-requires
counted-table-requires c = let P = c.of.ensures in
    rw (P.0, P.1, P.2, P.3) (legible c.args.h.width c.args.plan.now c.requires.0 c.args.h c.requires.2 _ refl _ c.links_of.ensures c.requires.1)

pub highest-requires : goal.highest-requires
highest-requires c = (shape_ranged c.args.h.width c.args.plan.now c.requires.0 c.args.h c.requires.2).ticks_hi

pub returns : goal.returns
returns c = let P = c.of.ensures in
    c.highest.ensures
    ∙ most_arriving c.args.h.width c.args.plan.now c.requires.0 c.args.h c.requires.2 _ refl _ c.links_of.ensures
    _ c.args.h.ticks (shape_ranged c.args.h.width c.args.plan.now c.requires.0 c.args.h c.requires.2).ticks_hi (rw (P.0, P.1, P.2, P.3) at c.counted-table.ensures)
