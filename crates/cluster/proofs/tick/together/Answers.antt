-- `tick::together` meets its contract. The loop's invariant: the set has the servers that a request of a party passed reaches.
use mathlib.Core.Path.{◌≡◌, fun_ext}
use native.Mathlib.Numerals.{add-one}
use native.Mathlib.Omega.{arith}
use Rattle.cluster.specs.Inputs.{requesters, is_asked}
use Rattle.cluster.proofs.Asking.{joined_none, joined_more}
use Rattle.cluster.proofs.tick.together.Goals as goal

pub loop-p-init : goal.loop-p-init
loop-p-init c = joined_none c.args.arrivals.requests

pub loop-p-preserved : goal.loop-p-preserved
loop-p-preserved c = let h = c.loop-p in rw (add-one h.p) (joined_more c.args.arrivals.requests h.all h.p h.invariant)

pub returns : goal.returns
unfolding is_asked
returns c = let e : c.loop-p.p ≡ requesters = omega arith in fun_ext (rw e at c.loop-p.invariant)
