-- `of_plan` meets its contract: the tables are those of the plan's writes.
-- It stands on what is decoded of a plan that can be played.
use mathlib.Core.Path.{◌≡◌}
use Rattle.plan.specs.{Header.placement_at, Header.moves, Shape.shape}
use Rattle.plan.proofs.Accept.{header_there}
use Rattle.tables.proofs.Standing.{operations_room, initial_narrow}
use Rattle.tables.proofs.Forging.{shape_ranged}
use Rattle.fitting.proofs.Decoded.{delta_same, write_tables}
use Rattle.fitting.proofs.times.of_plan.Goals.{After-operations_at-at}
use Rattle.fitting.proofs.times.of_plan.Goals as goal

-- where the operations start, at the width that was asked for
starts : (c : After-operations_at-at) → c.operations_at-at.result ≡ placement_at c.args.width (moves (shape c.read-shape.result))
starts c = rw c.read-shape.ensures.1 at c.operations_at-at.ensures.0

pub read-shape-requires : goal.read-shape-requires
read-shape-requires c = (header_there c.args.width c.args.plan.now c.requires.0, c.requires.1)

pub operations_at-at-requires : goal.operations_at-at-requires
operations_at-at-requires c = (shape_ranged c.args.width c.args.plan.now c.requires.0 c.read-shape.result c.read-shape.ensures.0, rw c.read-shape.ensures.1 c.requires.1)

pub writes_of-writes-requires : goal.writes_of-writes-requires
writes_of-writes-requires c = let h = c.read-shape in (
  rw c.from-operations.ensures (operations_room c.args.width c.args.plan.now c.requires.0 h.result h.ensures.0 c.operations_at-at.result
      (starts (goal.at.writes_of-writes-requires c).After-operations_at-at) c.requires.1),
  initial_narrow _ _ h.result h.ensures.0,
)

pub returns : goal.returns
returns c = let h = c.read-shape in
    record {
      tables = write_tables c.args.width c.args.plan.now c.requires.0 h.result h.ensures.0 c.operations_at-at.result (starts (goal.at.returns c).After-operations_at-at) _ _ _ (rw c.from-operations.ensures at c.writes_of-writes.ensures);
      delta_is = delta_same c.args.width c.args.plan.now h.result h.ensures.0;
    }
