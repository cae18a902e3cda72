-- `receipts` meets its contract: after b turns the first b servers are counted.
use mathlib.Core.Path.{◌≡◌, refl}
use native.Mathlib.Numerals.{add-one}
use native.Mathlib.Omega.{arith}
use borrow.Author.Rules.{rules}
use Rattle.register.specs.Lists.{count}
use Rattle.forecast.proofs.receipts.receipts.Goals as goal

pub loop-b-init : goal.loop-b-init
unfolding count
loop-b-init c = (search rules, refl)

pub arrival-before-requires : goal.arrival-before-requires
arrival-before-requires c = (c.requires.0, c.loop-b-test.true)

pub overflow_sub-before : goal.overflow_sub-before
overflow_sub-before c = omega (arith, c.arrival-before.ensures.0, (c.requires.1 c.loop-b.b c.loop-b-test.true).0)

pub bounds-placements-before : goal.bounds-placements-before
bounds-placements-before c = omega (arith, c.arrival-before.ensures.0, (c.requires.1 c.loop-b.b c.loop-b-test.true).1)

pub free-r-requires : goal.free-r-requires
free-r-requires c = omega (arith, c.requires.0.servers, c.loop-b-test.true)

pub loop-b-preserved : goal.loop-b-preserved
unfolding count
loop-b-preserved c = let l = c.loop-b in
    let f = rw c.arrival-before.ensures.0 at c.free-r.ensures.0 in
    (omega (arith, c.free-r.ensures.1), rw (add-one l.b) (omega (arith, f, l.invariant.1)))

pub returns : goal.returns
returns c = let l = c.loop-b in
    let e : l.b ≡ c.args.sending.n = omega arith in
    (rw e at l.invariant.1, omega (arith, c.requires.0.servers))
