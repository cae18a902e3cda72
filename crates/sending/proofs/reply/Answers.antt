-- `sending::reply` meets its contract. The loop's invariant: the replies to the readers below y are posted.
use native.Mathlib.Omega.{arith}
use mathlib.Core.Path.{◌≡◌}
use Rattle.sending.proofs.SendLaws.{replies_first, replies_unasked, replies_absent, replies_late, replies_sent, replies_last}
use Rattle.sending.proofs.reply.Goals.{
  then-readers-y-eq1+then-links-y+then-at-from as in_time,
  then-readers-y-eq1+then-links-y+else-at-from as late,
  else-readers-y-eq1 as nothing,
  else-readers-y-eq1-via-then-readers-y-eq1+else-links-y as absent,
  else-readers-y-eq1-via-else-readers-y-eq1 as unasked,
}
use Rattle.sending.proofs.reply.Goals as goal

pub loop-y-init : goal.loop-y-init
loop-y-init c = let a = c.args in replies_first _ a.from a.ends a.readers a.kept _

pub loop-y-preserved : goal.loop-y-preserved
loop-y-preserved c = let a = c.args in
    let l = c.loop-y in
    let h = l.auto.y in
    elim c.if-readers-y-eq1.branch [
      | in_time w ↦ rw w.work-is
          (replies_sent _ a.from a.ends a.readers a.kept _ _ l.y h l.invariant _ c.loop-y-test.true w.if-readers-y-eq1.true w.if-links-y.true
          (rw (w.delay-late.ensures.0, w.from.ensures, w.from-then-links-y.ensures) at w.if-at-from.true)
          (rw (w.row.ensures.0, w.from.ensures, w.delay-late.ensures.0) at w.post_kept.ensures))
      | late w ↦ rw w.work-is (replies_late _ a.from a.ends a.readers a.kept _ _ l.y h l.invariant (rw (w.delay-late.ensures.0, w.from.ensures, w.from-then-links-y.ensures) at w.if-at-from.false))
      | nothing w ↦ rw w.work-is (elim w.else-readers-y-eq1.branch [
        | absent v ↦ replies_absent _ a.from a.ends a.readers a.kept _ _ l.y h l.invariant v.if-links-y.false
        | unasked v ↦ replies_unasked _ a.from a.ends a.readers a.kept _ _ l.y h l.invariant v.if-readers-y-eq1.false
      ])
    ]

pub returns : goal.returns
returns c = let a = c.args in
    let e : c.loop-y.y ≡ 5 = omega (arith, c.loop-y.auto.y-end, c.loop-y-test.false) in
    replies_last _ a.from a.ends a.readers a.kept _ _ (rw e at c.loop-y.invariant)
