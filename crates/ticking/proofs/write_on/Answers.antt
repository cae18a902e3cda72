-- `write_on` meets its contract.
use Rattle.script.proofs.Feeding.{linked_there}
use Rattle.ticking.proofs.write_on.Goals as goal

pub write_on-requires : goal.write_on-requires
write_on-requires c = let p = c.requires in (linked_there _ _ p.0 _ p.1, p.0.scripted.writes.few, p.2)
