-- `rest_stand` meets its contract: the loop has tested the delays below q.
use mathlib.Core.Path.{◌≡◌, sym}
use native.Mathlib.Omega.{arith}
use Rattle.plan.specs.Shape.{shape}
use Rattle.delays.proofs.Pairs.{first_more}
use Rattle.delays.proofs.rest_stand.Goals as goal

pub loop-q-init : goal.loop-q-init
loop-q-init c = c.requires.4

pub loop-q-preserved : goal.loop-q-preserved
loop-q-preserved c = let a = c.args in
    let l = c.loop-q in
    rw (c.is_allowed-stands.ensures, c.nibble-delay.ensures.0, l.invariant, c.parties-parties.ensures) (sym (first_more a.plan.now (shape a.h) a.at l.q))

pub returns : goal.returns
returns c = let l = c.loop-q in
    let e : l.q ≡ c.args.all = omega arith in
    rw (← e) l.invariant
