-- `run` meets its contract. The loop's invariant: the ticks before p's are played.
use borrow.Author.Rules.{rules}
use native.Mathlib.Omega.{arith}
use mathlib.Core.Path.{refl}
use Rattle.player.proofs.Whole.{ready_kept, went_none, went_on}
use Rattle.player.proofs.run.Goals as goal

pub loop-init : goal.loop-init
loop-init c = (refl, c.requires.2, c.requires.3, refl, c.requires.4, c.requires.0, went_none _ _ _ _ _ _ c.requires.1)

pub tick-requires : goal.tick-requires
tick-requires c = let h = c.loop.invariant in (h.5, h.6.played, omega (arith, h.2, c.loop-test.true), h.4)

pub loop-preserved : goal.loop-preserved
loop-preserved c = let n = c.tick in
    let h = c.loop.invariant in
    (omega (arith, n.ensures.1), omega (arith, c.loop-test.true), h.2, search rules, search rules, ready_kept _ _ _ _ n.ensures.0.kept h.5, went_on _ _ _ _ _ _ _ _ _ _ _ _ _ _ h.6 n.ensures.0)

pub shape_of-answers : goal.shape_of-answers
shape_of-answers c = c.loop.invariant.3

pub returns : goal.returns
returns c = let h = c.loop.invariant in (h.6, omega (arith, h.0, h.1, c.loop-test.false))
