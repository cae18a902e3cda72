-- `forging::forge` meets its contract. The loop's invariant: the entries passed are posted.
use native.Mathlib.Omega.{arith}
use Rattle.forging.proofs.Forgeries.{forges_none, forges_more}
use Rattle.forging.proofs.forge.Goals as goal

pub loop-e-init : goal.loop-e-init
loop-e-init c = rw c.from-e.ensures (forges_none _ _ _ _)

pub loop-e-preserved : goal.loop-e-preserved
loop-e-preserved c = let l = c.loop-e in forges_more _ _ _ _ _ _ l.e (omega (arith, l.auto.e, c.from-e.ensures)) l.invariant c.post_entry.ensures
