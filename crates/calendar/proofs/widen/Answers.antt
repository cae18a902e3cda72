-- `widen` meets its contract.
use Prim.Native.Nat.{◌+◌, ◌*◌}
use native.Mathlib.Omega.{arith}
use lib.Seq.{get_or-set_other}
use Rattle.calendar.specs.Posts.{widened}
use Rattle.calendar.proofs.widen.Goals as goal

pub returns : goal.returns
unfolding widened
returns c = let a = c.args in
    rw (c.max-2.ensures, c.max.ensures, get_or-set_other a.work.now (2 * a.row) (2 * a.row + 1) _ 0 (λ e. omega arith))
