-- `reading::end_all` meets its contract. The loop's invariant: the answers of the reads passed are placed.
use Prim.Native.Nat.{◌*◌}
use Rattle.register.proofs.Lists.{part_from}
use Rattle.reading.proofs.Cursors.{part_back, placed_none, placed_more}
use Rattle.reading.proofs.end_all.Goals as goal

pub loop-i-init : goal.loop-i-init
loop-i-init c = placed_none _ _ _ _

pub loop-i-preserved : goal.loop-i-preserved
loop-i-preserved c = let l = c.loop-i in
    let at = c.size-size.result * l.i in
    placed_more _ _ _ l.i _ l.answers _ l.auto.i l.invariant (rw (part_back at l.answers, c.answer.ensures, part_from at l.answers, c.size-size.ensures))
