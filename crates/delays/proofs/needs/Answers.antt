-- `needs` meets its contract: the loop has filled the entries below k.
use mathlib.Core.Path.{refl}
use native.Mathlib.Nat.{not-suc-le-zero}
use native.Mathlib.Omega.{arith}
use lib.ListN.{length-set}
use Rattle.delays.proofs.Pairs.{needed_more}
use Rattle.delays.proofs.needs.Goals as goal

pub loop-k-init : goal.loop-k-init
loop-k-init c = (refl, λ k l. absurd (not-suc-le-zero l))

pub loop-k-preserved : goal.loop-k-preserved
loop-k-preserved c = let l = c.loop-k in
    let a = c.args in
    (rw length-set l.invariant.0, needed_more a.n a.parties l.k c.need_of.result l.needs l.invariant.1 (omega arith) c.need_of.ensures)

pub returns : goal.returns
returns c = (c.loop-k.invariant.0, λ m l. c.loop-k.invariant.1 m (omega (arith, l)))
