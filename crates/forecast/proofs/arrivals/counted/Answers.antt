-- `counted` meets its contract: after e turns the table has the arrivals of the first e messages.
use mathlib.Core.Path.{◌≡◌, ap}
use Prim.Native.Nat.{ℕ, ◌+◌, ◌<◌}
use native.Mathlib.Omega.{arith}
use Rattle.register.specs.Plan.{Forgery}
use Rattle.plan.specs.{Steps.forgery}
use Rattle.tables.specs.Forged.{forged_at}
use Rattle.forecast.specs.Steps.{most_arrivals}
use Rattle.forecast.proofs.Tables.{arrived_none, arrived_few, arrived_more}
use Rattle.forecast.proofs.arrivals.counted.Goals.{After-delay_of, After-message-g}
use Rattle.forecast.proofs.arrivals.counted.Goals as goal

abbrev at : Forgery → ℕ
at g = g.at

abbrev from : Forgery → ℕ
from g = g.from

abbrev to : Forgery → ℕ
to g = g.to

-- the message that is looked at
message : (c : After-message-g) → forgery c.args.part.now.width c.message-g.result ≡ forged_at c.args.part.now.width c.args.part.now.bytes.now c.args.part.now.offset c.loop-e.e
message c = c.message-g.ensures.0

-- the tick of its arrival is in the table
in_table : (c : After-delay_of) → c.from.result + c.delay_of.result < most_arrivals
in_table c = omega (arith, c.from.ensures, c.message-g.ensures.1, c.delay_of.ensures.1)

pub loop-e-init : goal.loop-e-init
loop-e-init c = arrived_none _

pub message-g-requires : goal.message-g-requires
message-g-requires c = (c.requires.narrow, c.requires.start, c.requires.few, c.loop-e-test.true, c.requires.inside)

pub delay_of-requires : goal.delay_of-requires
delay_of-requires c = let E = message (goal.at.delay_of-requires c).After-message-g in
    rw (ap at E, ap from E, ap to E) (c.requires.reach _ c.loop-e-test.true)

pub overflow_add-t : goal.overflow_add-t
overflow_add-t c = omega (arith, in_table (goal.at.overflow_add-t c).After-delay_of)

pub bounds-r-t : goal.bounds-r-t
bounds-r-t c = in_table (goal.at.bounds-r-t c).After-delay_of

pub overflow_add-r : goal.overflow_add-r
overflow_add-r c = omega (arith, arrived_few _ _ _ c.loop-e.invariant _ (in_table (goal.at.overflow_add-r c).After-delay_of), c.requires.few, c.loop-e-test.true)

pub bounds-r-t-in-loop-e : goal.bounds-r-t-in-loop-e
bounds-r-t-in-loop-e c = in_table (goal.at.bounds-r-t-in-loop-e c).After-delay_of

pub loop-e-preserved : goal.loop-e-preserved
loop-e-preserved c = let h = c.loop-e in
    let E = message (goal.at.loop-e-preserved c).After-message-g in
    arrived_more _ h.e h.r h.invariant _ (in_table (goal.at.loop-e-preserved c).After-delay_of) (rw (c.from.ensures, c.delay_of.ensures.0, ap at E, ap from E, ap to E))

pub returns : goal.returns
returns c = let e : c.loop-e.e ≡ c.args.part.now.count = omega arith in
    rw e at c.loop-e.invariant
