-- `shown::shown_places` meets its contract. The loop's invariant: the places passed have pairs, and the array has these and no other.
use mathlib.Core.Path.{refl, ap, ◌∙◌}
use Prim.Native.Nat.{◌<◌}
use native.Mathlib.Omega.{arith}
use lib.ListN.{length}
use Rattle.plan.specs.Packed.{store_depth}
use Rattle.results.specs.Look.{places_of}
use Rattle.look.proofs.StoredPlaces.{store_more, store_placed, store_empty, store_end}
use Rattle.results.proofs.ShownPlaces.{none_passed}
use Rattle.look.proofs.shown.shown_places.Goals as goal

pub loop-i-init : goal.loop-i-init
unfolding places_of
loop-i-init c = (c.well_formed.0.1.0.1, none_passed _, refl)

pub returns-then-p : goal.returns-then-p
returns-then-p c = let l = c.loop-i in
    l.invariant.2 ∙ ap places_of (store_empty c.args.kept l.i l.invariant.1 (omega (arith, l.invariant.0)) c.if-p.true)

pub loop-i-preserved : goal.loop-i-preserved
loop-i-preserved c = let l = c.loop-i in
    let ps = c.args.kept in
    let at : l.i < store_depth = omega arith in
    let in-store : l.i < length ps = omega (arith, l.invariant.0) in
    (l.invariant.0, store_more ps l.i l.invariant.1 in-store c.if-p.false, rw l.invariant.2 (store_placed ps l.i l.invariant.1 in-store c.if-p.false at))

pub returns : goal.returns
returns c = let l = c.loop-i in
    l.invariant.2 ∙ ap places_of (store_end c.args.kept l.i l.invariant.1 (omega (arith, l.invariant.0)))
