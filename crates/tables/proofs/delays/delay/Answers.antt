-- `delays::delay` meets its contract: the four bits lie in the plan, and their place is small.
use native.Mathlib.Omega.{arith}
use Rattle.tables.proofs.LinkLaws.{parties_few, link_at, link_small, link_inside}
use Rattle.tables.proofs.delays.delay.Goals as goal

pub overflow_add-row_bit : goal.overflow_add-row_bit
overflow_add-row_bit c = omega (arith, c.row_bit.ensures, link_small _ c.args.links c.args.links.n c.args.u c.requires.linked c.args.i c.requires.sender, c.requires.receiver, parties_few _ c.args.links c.args.links.n c.args.u c.requires.linked)

pub nibble-requires : goal.nibble-requires
nibble-requires c = omega (arith, c.row_bit.ensures, link_inside _ c.args.links c.args.links.n c.args.u c.requires.linked c.args.i c.requires.sender, c.requires.receiver)

pub returns : goal.returns
returns c = let a = c.args in
    rw c.from.ensures (rw (c.row_bit.ensures, link_at a.links a.u a.i a.b) at c.nibble.ensures.0, c.nibble.ensures.1)
