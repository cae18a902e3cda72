-- `placements::is_faulty` meets its contract.
use Rattle.plan.specs.Parts.{in_placement}
use Rattle.placements.proofs.is_faulty.Goals as goal

pub returns : goal.returns
unfolding in_placement
returns c = rw (c.bit.ensures, c.placement_at.ensures)
