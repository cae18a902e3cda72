-- `fit` meets its contract: the loop has compared the numbers below i.
use mathlib.Core.Path.{refl, sym}
use native.Mathlib.Numerals.{add-one}
use native.Mathlib.Omega.{arith}
use Rattle.bits.specs.Layout.{records, fits}
use Rattle.nibbles.proofs.Numbers.{fits_more}
use Rattle.nibbles.proofs.fit.Goals as goal

pub loop-number-init : goal.loop-number-init
unfolding records fits
loop-number-init c = refl

pub loop-number-preserved : goal.loop-number-preserved
loop-number-preserved c = let xs = c.args.numbers.now in
    let l = c.loop-number in
    rw (l.invariant, add-one) (sym (fits_more xs l.number-index (omega arith)))
