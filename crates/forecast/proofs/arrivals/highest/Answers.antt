-- `highest` meets its contract: behind the first numbers it has the largest of them.
-- It stands on the definition alone.
use mathlib.Core.Path.{refl}
use native.Mathlib.Numerals.{add-one}
use native.Mathlib.Omega.{arith}
use Rattle.traffic.specs.Traffic.{largest}
use Rattle.bits.proofs.Prefix.{first, told}
use Rattle.forecast.proofs.arrivals.highest.Goals as goal

pub loop-x-init : goal.loop-x-init
unfolding largest
loop-x-init c = (first _ _, refl)

pub loop-x-preserved : goal.loop-x-preserved
unfolding largest
loop-x-preserved c = let l = c.loop-x in
    (l.invariant.0, rw (add-one l.x-index) (omega (arith, c.max-r.ensures, told c.args.table.now l.invariant.0 c.loop-x-test.true, l.invariant.1)))
