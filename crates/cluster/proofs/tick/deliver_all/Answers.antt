-- `tick::deliver_all` meets its contract. The loop's invariant: the servers passed have what arrives, the others are as they were.
use mathlib.Core.Path.{◌≡◌, sym, ap, ◌∙◌}
use mathlib.Core.Bool.{Bool}
use Prim.Native.Nat.{ℕ}
use native.Mathlib.Omega.{arith}
use lib.ListN.{length}
use Rattle.cluster.specs.Tick.{feed_of}
use Rattle.cluster.proofs.RowLaws.{emptied_now}
use Rattle.cluster.proofs.IdleLaws.{unreached}
use Rattle.cluster.proofs.ServeLaws.{Passed, serving_settled, served_now, served_idle, passed_idle, served_spans, served_empty, serving_turn}
use Rattle.cluster.proofs.tick.deliver_all.Goals.{Joined-is_reached}
use Rattle.cluster.proofs.tick.deliver_all.Goals as goal

-- the server has what arrives, or nothing reaches it
middle : (c : Joined-is_reached) → let l = c.loop-b in
    Passed (feed_of c.args.plan.now l.work c.args.feed) c.args.ends c.args.values.now l.b l.after c.if-is_reached.after l.sets c.if-is_reached.sets c.if-is_reached.work
middle c = let l = c.loop-b in
    elim c.if-is_reached.branch [
      | goal.then-is_reached y ↦ record {
        next = y.deliver.result;
        put = y.after-is;
        served = rw (y.work-is, y.sets-is) (served_now _ l.work c.args.feed _ _ l.b _ _ l.sets _ _ y.turn_of.result y.sender.result y.turn_of.ensures y.sender.ensures y.deliver.ensures);
      }
      | goal.else-is_reached y ↦
          let S = l.invariant in
          let own = c.loop-b-test.true in
          let all = ap (λ (f : ℕ → Bool). f l.b) c.together-due.ensures in
          let e = unreached _ _ _ _ _ c.is_reached.ensures y.if-is_reached.false in
          rw (y.work-is, y.sets-is, y.after-is) (passed_idle (feed_of c.args.plan.now l.work c.args.feed) _ _ l.b l.after l.sets
          (served_idle _ _ _ l.b _ l.sets (omega (arith, own, c.requires.0.servers)) c.requires.0.pairs S.done.spans
          (rw (c.row-row.ensures.0, c.from-t.ensures) at (sym c.high-high.ensures.0 ∙ e.0))
          (sym all ∙ (sym c.has.ensures ∙ e.1)) e.2
          (serving_settled _ _ _ _ _ c.requires.0 l.after l.sets l.work l.b own (omega arith) S c.requires.1)))
    ]

pub loop-b-preserved : goal.loop-b-preserved
loop-b-preserved c = let m = middle (goal.at.loop-b-preserved c).Joined-is_reached in
    let l = c.loop-b in
    let own = c.loop-b-test.true in
    let long : length c.args.before ≡ 16 = omega arith in
    let row = c.row-row.ensures.0 in
    let t = c.from-t.ensures in
    let next = serving_turn _ _ _ _ _ c.requires.0 l.after l.sets l.work l.b own long l.invariant _ _ _ m in
    elim c.if-high-ne0.branch [
      | goal.then-high-ne0 y ↦
          let spans = served_spans _ _ _ _ _ c.requires.0 l.after l.sets l.work l.b own long l.invariant _ _ _ m in
          rw y.work-is (next _ (emptied_now _ _ spans _ (rw (row, t) at y.clear.ensures)))
      | goal.else-high-ne0 y ↦
          let none = rw (row, t) at (sym c.high-high.ensures.0 ∙ y.if-high-ne0.false) in
          rw y.work-is (next _ (served_empty _ _ _ _ _ c.requires.0 l.after l.sets l.work l.b own long l.invariant _ _ _ m none))
    ]
