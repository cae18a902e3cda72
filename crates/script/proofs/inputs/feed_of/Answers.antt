-- `tick::feed_of` meets its contract: the requests stand in the workspace, the movement in the plan.
use Rattle.script.proofs.Feeding.{movement_there}
use Rattle.script.proofs.inputs.feed_of.Goals as goal

pub movement-requires : goal.movement-requires
movement-requires c = movement_there _ _ c.requires.0 _ c.requires.1
