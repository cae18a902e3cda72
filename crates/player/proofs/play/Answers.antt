-- `play` meets its contract: the ticks, in which the answers are written.
use native.Mathlib.Omega.{arith}
use mathlib.Core.Path.{refl}
use Rattle.tallies.specs.Tallies.{table_size}
use Rattle.player.proofs.Whole.{ready, begun, blank_table, answers_room, all_there}
use Rattle.player.proofs.play.Goals as goal

pub run-end-requires : goal.run-end-requires
run-end-requires c = let p = c.requires in (
  ready _ _ _ _ _ _ p.0 p.3 c.read-script.ensures _ c.begin-start.ensures,
  begun _ _ _ _ _ _ p.0 p.3 c.read-script.ensures _ c.begin-start.ensures _ refl (blank_table table_size),
  rw c.begin-start.ensures.first (omega arith),
  omega arith,
  answers_room _ _ _ _ _ _ p.0 p.3 c.read-script.ensures _ c.begin-start.ensures _ p.2,
)

pub zero-requires : goal.zero-requires
zero-requires c = omega (arith, c.requires.3, c.read-script.ensures.0.forged.filled.size, c.begin-start.ensures.kept.size, c.run-end.ensures.0.kept.size)

pub returns : goal.returns
returns c = let p = c.requires in
    all_there _ _ _ _ _ _ p.0 p.3 c.read-script.ensures _ c.begin-start.ensures _ _ _ _ _ _ c.run-end.ensures.0 c.run-end.ensures.1 _ c.zero.ensures
