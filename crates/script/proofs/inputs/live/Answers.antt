-- `inputs::live` meets its contract. The loop's invariant: the set has the readers passed whose read did not begin in the tick before.
use mathlib.Core.Path.{◌≡◌, fun_ext}
use mathlib.Core.Bool.{Bool, not, ◌&&◌}
use Prim.Native.Nat.{ℕ, ◌+◌, ◌*◌, ◌-◌}
use native.Mathlib.Omega.{arith}
use lib.Dec.{eqb, ltb}
use lib.ListN.{get_or}
use borrow.Author.Tests.{lt-ltb, eq-eqb, ne_eqb}
use Rattle.cluster.specs.Inputs.{requesters}
use Rattle.cluster.proofs.Asking.{set_none, set_more, set_same}
use Rattle.script.specs.Inputs.{live_at}
use Rattle.script.proofs.inputs.live.Goals as goal

pub loop-x-preserved : goal.loop-x-preserved
loop-x-preserved c = let h = c.loop-x in
    let a = c.args in
    let g : ℕ → Bool = λ k. ltb 0 k && not (eqb (get_or a.ends (k - 1) 0 + 1) (a.t + 2 * a.delta)) in
    let end = c.from-in-loop-x.ensures in
    elim c.if-from-fresh.branch [
      | goal.then-from-fresh w ↦ rw w.readers-is (set_more g h.readers h.x h.invariant (omega arith) (rw (lt-ltb 0 h.x h.auto.x, ← end, ← c.from.ensures, ← c.from-2.ensures, ne_eqb _ _ w.if-from-fresh.true)))
      | goal.else-from-fresh w ↦ rw w.readers-is (set_same g h.readers h.x h.invariant (rw (lt-ltb 0 h.x h.auto.x, ← end, ← c.from.ensures, ← c.from-2.ensures, eq-eqb _ _ w.if-from-fresh.false)))
    ]

pub loop-x-init : goal.loop-x-init
loop-x-init c = set_none _

pub returns : goal.returns
unfolding live_at
returns c = let e : c.loop-x.x ≡ requesters = omega arith in fun_ext (rw e at c.loop-x.invariant)
