-- `tick::move_all` meets its contract. The loop's invariant: the movement has met the servers before b, in their new voting period.
use mathlib.Core.Path.{◌≡◌}
use native.Mathlib.Omega.{arith}
use Rattle.cluster.proofs.StageRuns.{moving_more, moving_all}
use Rattle.cluster.proofs.tick.move_all.Goals as goal

pub loop-b-preserved : goal.loop-b-preserved
loop-b-preserved c = let l = c.loop-b in
    moving_more _ _ _ _ _ _ _ l.b l.invariant (omega arith) (omega arith) c.requires.1 _ (rw c.in-Some.is c.has-is_faulty.ensures) c.moved.result _ c.moved.ensures

pub returns : goal.returns
returns c = let l = c.loop-b in
    let e : l.b ≡ c.args.feed.rules.n = omega arith in
    moving_all _ _ _ _ _ _ (rw c.in-Some.is) c.requires.0 c.requires.1 _ (rw c.of_server.ensures.0 at c.next_period.ensures) _ _ (rw e at l.invariant)
