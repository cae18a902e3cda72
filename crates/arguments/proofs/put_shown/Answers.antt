-- `put_shown` meets its contract: behind the first bytes so many are shown.
-- It stands on the laws of what is shown.
use mathlib.Core.Path.{◌∙◌}
use native.Mathlib.Omega.{arith}
use lib.ListN.{take}
use Rattle.arguments.proofs.Laws.{shown_more, shown_whole}
use Rattle.arguments.proofs.put_shown.Goals as goal

pub loop-byte-preserved : goal.loop-byte-preserved
loop-byte-preserved c =
    let l = c.loop-byte in
    let p = c.put_byte-next in
    let more = shown_more (take c.min.result c.args.name.now) c.loop-byte-test.true l.invariant.2 c.shown.ensures (rw l.invariant.0 at p.ensures) in
    (omega (arith, p.ensures.next_is, l.invariant.0), p.auto.out ∙ l.invariant.1, more)

pub returns : goal.returns
returns c = rw c.loop-byte.invariant.0 (shown_whole c.args.name.now c.min.result c.min.ensures c.loop-byte-test.false c.loop-byte.invariant.2)
