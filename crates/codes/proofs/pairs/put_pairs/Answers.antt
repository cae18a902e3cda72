-- `put_pairs` meets its contract. The loop's invariant: the pairs of the places passed stand over the buffer, as far as they fit.
use mathlib.Core.Path.{refl, sym, ◌∙◌}
use native.Mathlib.Omega.{arith}
use Rattle.results.proofs.ShownPlaces.{none_passed, one_more, at_empty, at_end}
use Rattle.codes.proofs.PairLaws.{over_none, put_more}
use Rattle.codes.proofs.pairs.put_pairs.Goals as goal

pub loop-i-init : goal.loop-i-init
loop-i-init c = (none_passed _, refl, sym (over_none _))

pub returns-in-None : goal.returns-in-None
returns-in-None c = let h = c.loop-i.invariant in
    let n = c.well_formed.1.0.1.0.1 in
    let e = at_empty _ _ h.0 _ (omega (arith, n)) c.in-None.is in
    (omega arith, e.0, rw (← e.1) h.2)

pub put_pair-requires : goal.put_pair-requires
put_pair-requires c = (omega arith, rw c.in-Some.is at (c.requires c.loop-i.i))

pub loop-i-preserved : goal.loop-i-preserved
loop-i-preserved c = let h = c.loop-i.invariant in
    let n = c.well_formed.1.0.1.0.1 in
    let w = c.put_pair.ensures in
    (one_more _ _ h.0 _ _ (omega (arith, n)) c.in-Some.is, w.0 ∙ h.1, put_more _ _ h.0 _ _ (omega (arith, n)) c.in-Some.is _ _ _ h.1 h.2 w.1)

pub returns : goal.returns
returns c = let h = c.loop-i.invariant in
    let n = c.well_formed.1.0.1.0.1 in
    let e = at_end _ _ h.0 (omega (arith, n)) in
    (omega arith, omega arith, rw (← e.1) h.2)
