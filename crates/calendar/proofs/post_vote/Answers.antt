-- `post_vote` meets its contract. The loop's invariant: the vote is posted to the servers before b.
use native.Mathlib.Omega.{arith}
use Prim.Native.Nat.{◌<◌}
use Rattle.calendar.proofs.Stores.{others_yes, others_self}
use Rattle.calendar.proofs.post_vote.Goals.{then-b-i, else-b-i}
use Rattle.calendar.proofs.post_vote.Goals as goal

pub loop-b-preserved : goal.loop-b-preserved
loop-b-preserved c = let l = c.loop-b in
    let h : l.b < 16 = omega (arith, c.requires.0.servers, c.loop-b-test.true) in
    elim c.if-b-i.branch [
      | then-b-i w ↦ (rw w.work-is (others_yes c.args.sending _ _ _ _ l.b h w.if-b-i.true l.invariant (rw (w.row.ensures.0, w.arrival.ensures.0) at w.post.ensures)))
      | else-b-i w ↦ (rw w.work-is (others_self c.args.sending _ _ _ l.b w.if-b-i.false l.invariant))
    ]
