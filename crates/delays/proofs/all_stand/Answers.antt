-- `all_stand` meets its contract: the loop has passed the ticks below t.
use mathlib.Core.Bool.{Bool}
use mathlib.Core.Path.{◌≡◌, sym, ◌∙◌}
use Prim.Native.Nat.{◌/◌, ℕ, ◌*◌, ◌≤◌}
use native.Mathlib.Omega.{arith}
use borrow.Author.Tests.{not-true, not-false}
use Rattle.delays.specs.Steps.{Needed, tick_stands}
use Rattle.plan.specs.Shape.{shape}
use Rattle.plan.specs.Header as Header
use Rattle.delays.proofs.Rows.{tick_at, ticks_stand}
use Rattle.plan.proofs.Laws.{all_none, all_more, all_stop, all_end, row_inside, square_few, table_few}
use Rattle.delays.proofs.all_stand.Goals.{After-tick_stands, In-loop-t}
use Rattle.delays.proofs.all_stand.Goals as goal

-- the test of tick t
abbrev tick : In-loop-t → ℕ → Bool
tick c t = tick_stands c.args.plan.now (shape c.args.h) (tick_at c.args.h.width c.args.plan.now (shape c.args.h) t)

tested : (c : After-tick_stands) → tick_stands c.args.plan.now (shape c.args.h) (tick_at c.args.h.width c.args.plan.now (shape c.args.h) c.loop-t.t) ≡ c.tick_stands.result
tested c = rw (← c.delays_at-first.ensures.0, ← c.parties-parties.ensures) (sym c.tick_stands.ensures)

inside : (c : In-loop-t) → (c.loop-t.t * (c.parties-parties.result * c.parties-parties.result) ≤ 56448) × (c.parties-parties.result * c.parties-parties.result ≤ 441)
inside c = let p = c.parties-parties.result in (table_few c.loop-t.t p (omega arith) (omega arith), square_few p (omega arith))

pub delays_at-first-requires : goal.delays_at-first-requires
delays_at-first-requires c = (c.requires.ranged, c.requires.narrow)

pub overflow_mul-all : goal.overflow_mul-all
overflow_mul-all c = let p = c.parties-parties.result in omega (arith, square_few p (omega arith))

pub needs-need-requires : goal.needs-need-requires
needs-need-requires c = let p = c.parties-parties.result in omega (arith, square_few p (omega arith))

pub loop-t-init : goal.loop-t-init
loop-t-init c = all_none _

pub overflow_mul-t : goal.overflow_mul-t
overflow_mul-t c = omega (arith, inside (goal.at.overflow_mul-t c).In-loop-t)

pub overflow_mul-t-in-loop-t : goal.overflow_mul-t-in-loop-t
overflow_mul-t-in-loop-t c = omega (arith, inside (goal.at.overflow_mul-t-in-loop-t c).In-loop-t)

pub overflow_add-first : goal.overflow_add-first
overflow_add-first c = omega (arith, inside (goal.at.overflow_add-first c).In-loop-t)

pub tick_stands-requires : goal.tick_stands-requires
tick_stands-requires c = let h = (shape c.args.h) in
    let p = Header.parties h in
    let t = c.loop-t.t in
    let m = table_few t p (omega arith) (omega arith) in
    let r = row_inside t h.ticks (p * p) (omega arith) in
    let n = c.needs-need.ensures in
    let f : Needed h.n p (p * p / 2) c.needs-need.result = rw (c.parties-parties.ensures, c.from.ensures) at n.1 in
    rw (c.parties-parties.ensures, c.delays_at-first.ensures.0)
    (omega (arith, r), omega (arith, m), square_few p (omega arith), omega (arith, n.0), f)

pub returns-then-not-tick_stands : goal.returns-then-not-tick_stands
returns-then-not-tick_stands c = let a = c.args in
    rw (← ticks_stand a.h.width a.plan.now (shape a.h))
    (sym (all_stop (tick (goal.at.returns-then-not-tick_stands c).In-loop-t) c.loop-t.t (shape a.h).ticks (omega arith)
    (tested (goal.at.returns-then-not-tick_stands c).After-tick_stands ∙ not-true _ c.if-not-tick_stands.true-raw)))

pub loop-t-preserved : goal.loop-t-preserved
loop-t-preserved c = let at = goal.at.loop-t-preserved c in
    all_more (tick at.In-loop-t) _ c.loop-t.invariant (tested at.After-tick_stands ∙ not-false _ c.if-not-tick_stands.false-raw)

pub returns : goal.returns
returns c = let a = c.args in
    rw (← ticks_stand a.h.width a.plan.now (shape a.h))
    (all_end (λ t. tick_stands a.plan.now (shape a.h) (tick_at a.h.width a.plan.now (shape a.h) t)) c.loop-t.t (shape a.h).ticks (omega arith) (omega arith) c.loop-t.invariant)
