-- `tick::asks_at` meets its contract. The loop's invariant: the set has the readers passed whose READ reaches the server.
use mathlib.Core.Path.{◌≡◌, sym, ◌∙◌, fun_ext}
use mathlib.Core.Bool.{Bool, ◌&&◌}
use Prim.Native.Nat.{ℕ}
use native.Mathlib.Omega.{arith}
use lib.Dec.{ltb}
use lib.ListN.{get_or}
use borrow.Author.Tests.{lt-ltb}
use Rattle.limits.specs.Bits.{bit}
use Rattle.cluster.specs.Inputs.{requesters, asks_at}
use Rattle.cluster.proofs.Asking.{set_none, set_more, set_same}
use Rattle.cluster.proofs.tick.asks_at.Goals as goal

pub loop-x-init : goal.loop-x-init
loop-x-init c = set_none _

pub loop-x-preserved : goal.loop-x-preserved
loop-x-preserved c = let h = c.loop-x in
    let a = c.args in
    let g : ℕ → Bool = λ k. ltb 0 k && bit a.b (get_or a.requests k 0) in
    elim c.if-has.branch [
      | goal.then-has w ↦ rw w.readers-is (set_more g h.readers h.x h.invariant (omega arith) (rw (lt-ltb 0 h.x h.auto.x) (sym c.has.ensures ∙ w.if-has.true)))
      | goal.else-has w ↦ rw w.readers-is (set_same g h.readers h.x h.invariant (rw (lt-ltb 0 h.x h.auto.x) (sym c.has.ensures ∙ w.if-has.false)))
    ]

pub returns : goal.returns
unfolding asks_at
returns c = let e : c.loop-x.x ≡ requesters = omega arith in fun_ext (rw e at c.loop-x.invariant)
