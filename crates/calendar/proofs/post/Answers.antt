-- `post` meets its contract: a pair that is not a known one is in no cell.
use native.Mathlib.Omega.{arith}
use Rattle.calendar.proofs.Posting.{added, posted_one}
use Rattle.calendar.proofs.post.Goals as goal

pub returns : goal.returns
unfolding added
returns c = let a = c.args in
    rw (c.add.ensures, c.cell.ensures.0, c.from-2.ensures, c.widen.ensures)
    (posted_one a.work.now a.row a.j a.i c.requires.0 (omega arith) c.requires.2)
