-- `reading::begin_all` meets its contract. The loop's invariant: the readers of the reads passed are set up.
use Rattle.reading.proofs.Cursors.{begun_none, begun_more, set_up_none, set_up_more}
use Rattle.reading.proofs.begin_all.Goals as goal

pub loop-i-init : goal.loop-i-init
loop-i-init c = (begun_none _ _ _ _, set_up_none _ _ _)

pub loop-i-preserved : goal.loop-i-preserved
loop-i-preserved c = let l = c.loop-i in (
  begun_more _ _ _ _ l.i l.ends _ l.auto.i l.invariant.0 (rw c.from-x.ensures),
  set_up_more _ _ _ l.i l.sets _ l.auto.i l.invariant.1 (rw (c.of_reader.ensures.0, c.from-x.ensures) at c.empty.ensures),
)
