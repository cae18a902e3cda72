-- `counts_of` meets its contract: the numbers that it finds from the plan alone are the counts of the run.
-- It stands on Counted.
use mathlib.Core.Path.{◌≡◌, ap}
use mathlib.Core.List.{List}
use Prim.Native.Nat.{ℕ, ◌*◌, ◌^◌, ◌≤◌, ◌<◌}
use native.Mathlib.Nat.{mul-le-mul}
use native.Mathlib.Omega.{arith}
use Rattle.plan.specs.{declared.header.Shape.Shape, Form.most_width, Header.Header, Header.header_of, Playable.Playable, Shape.Ranged, Shape.shape}
use Rattle.plan.proofs.Accept.{playable, header_there, reads_counted}
use Rattle.answers.proofs.Lengths.{answer_few}
use Rattle.tables.proofs.Forging.{shape_ranged}
use Rattle.forecast.specs.Steps.{most_receipts}
use Rattle.forecast.proofs.Counted.{operations_are, found}
use Rattle.forecast.proofs.counts_of.Goals.{After-read-h, After-size, Start}
use Rattle.forecast.proofs.counts_of.Goals as goal

-- a number for each server
small : (n m : ℕ) → n ≤ 16 → m ≤ most_receipts → n * m < 2 ^ 32
small n m h l = omega (arith, mul-le-mul {n₂ = 16} {m₂ = most_receipts} h l)

at_width : (w v : ℕ) (s : List ℕ) (x : Shape) → v ≡ w → Playable w s → w ≤ most_width → shape x ≡ header_of w s → Playable v s × (v ≤ most_width) × (shape x ≡ header_of v s)
at_width w v s x e A narrow q = rw e (A, narrow, q)

plays : (c : Start) → Playable c.args.width c.args.plan.now
plays c = playable c.args.width _ c.args.reads c.requires.0

-- the header that was read
same : (c : After-read-h) → shape c.read-h.result ≡ header_of c.args.width c.args.plan.now
same c = c.read-h.ensures.0

ranged : (c : After-read-h) → Ranged (shape c.read-h.result)
ranged c =
    let plays : Playable c.args.width c.args.plan.now = playable c.args.width _ c.args.reads c.requires.0 in
    let same : shape c.read-h.result ≡ header_of c.args.width c.args.plan.now = c.read-h.ensures.0 in
    shape_ranged c.args.width c.args.plan.now (plays) c.read-h.result (same)

-- what is counted in it is asked of a plan that can be played, at the header's own width
asked : (c : After-read-h) → let x = c.read-h.result in let plan = c.args.plan.now in
    Playable x.width plan × (x.width ≤ most_width) × (shape x ≡ header_of x.width plan)
asked c =
    let plays : Playable c.args.width c.args.plan.now = playable c.args.width _ c.args.reads c.requires.0 in
    let same : shape c.read-h.result ≡ header_of c.args.width c.args.plan.now = c.read-h.ensures.0 in
    at_width _ _ c.args.plan.now c.read-h.result c.read-h.ensures.1 (plays) c.requires.1 (same)

-- no more reads than operations
few : (c : After-read-h) → c.args.reads ≤ c.read-h.result.operations
few c =
    let plays : Playable c.args.width c.args.plan.now = playable c.args.width _ c.args.reads c.requires.0 in
    let same : shape c.read-h.result ≡ header_of c.args.width c.args.plan.now = c.read-h.ensures.0 in
    omega (arith, reads_counted c.args.width _ c.args.reads c.requires.0, operations_are c.args.width c.args.plan.now (plays), ap (λ (h : Header). h.operations) (same))

sized : (c : After-size) → c.size.result * c.args.reads ≤ 6 * 255
sized c =
    let plays : Playable c.args.width c.args.plan.now = playable c.args.width _ c.args.reads c.requires.0 in
    let same : shape c.read-h.result ≡ header_of c.args.width c.args.plan.now = c.read-h.ensures.0 in
    let ranged : Ranged (shape c.read-h.result) = shape_ranged c.args.width c.args.plan.now (plays) c.read-h.result (same) in
    let few : c.args.reads ≤ c.read-h.result.operations = omega (arith, reads_counted c.args.width _ c.args.reads c.requires.0, operations_are c.args.width c.args.plan.now (plays), ap (λ (h : Header). h.operations) (same)) in
    let size : c.size.result ≤ 6 = rw c.size.ensures (answer_few c.args.width c.requires.1) in
    mul-le-mul {n₂ = 6} {m₂ = 255} size (omega (arith, few, (ranged).operations_hi))

pub read-h-requires : goal.read-h-requires
read-h-requires c = (header_there c.args.width c.args.plan.now (plays (goal.at.read-h-requires c).Start), c.requires.1)

pub overflow_sub-writes : goal.overflow_sub-writes
overflow_sub-writes c = omega (arith, few (goal.at.overflow_sub-writes c).After-read-h)

pub overflow_mul-result : goal.overflow_mul-result
overflow_mul-result c = omega (arith, sized (goal.at.overflow_mul-result c).After-size)

pub overflow_cast-result : goal.overflow_cast-result
overflow_cast-result c = omega (arith, sized (goal.at.overflow_cast-result c).After-size)

pub moves-requires : goal.moves-requires
moves-requires c = ranged (goal.at.moves-requires c).After-read-h

pub overflow_mul-result-2 : goal.overflow_mul-result-2
overflow_mul-result-2 c = record { fits = small _ _ (ranged (goal.at.overflow_mul-result-2 c).After-read-h).n_hi (omega (arith, (ranged (goal.at.overflow_mul-result-2 c).After-read-h).operations_hi)) }

pub overflow_cast-result-4 : goal.overflow_cast-result-4
overflow_cast-result-4 c = omega (arith, few (goal.at.overflow_cast-result-4 c).After-read-h, (ranged (goal.at.overflow_cast-result-4 c).After-read-h).operations_hi)

pub overflow_mul-result-3 : goal.overflow_mul-result-3
overflow_mul-result-3 c = record { fits = small _ _ (ranged (goal.at.overflow_mul-result-3 c).After-read-h).n_hi (omega (arith, few (goal.at.overflow_mul-result-3 c).After-read-h, (ranged (goal.at.overflow_mul-result-3 c).After-read-h).operations_hi)) }

pub overflow_sub-result : goal.overflow_sub-result
overflow_sub-result c = omega (arith, (ranged (goal.at.overflow_sub-result c).After-read-h).n_lo)

pub all-requires : goal.all-requires
all-requires c = asked (goal.at.all-requires c).After-read-h

pub overflow_mul-result-4 : goal.overflow_mul-result-4
overflow_mul-result-4 c = record { fits = small _ _ (omega (arith, (ranged (goal.at.overflow_mul-result-4 c).After-read-h).n_hi)) c.all.ensures.1 }

pub most-requires : goal.most-requires
most-requires c = asked (goal.at.most-requires c).After-read-h

pub returns : goal.returns
returns c = let w = c.read-h.ensures.1 in
    let m = reads_counted c.args.width _ c.args.reads c.requires.0 in
    let n = ap (λ (h : Header). h.n) (same (goal.at.returns c).After-read-h) in
    found c.args.width c.args.plan.now (plays (goal.at.returns c).Start) c.args.reads _ _ _ _ _ _ _
    m
    c.size.ensures
    (rw (same (goal.at.returns c).After-read-h) at c.moves.ensures.0)
    n
    (omega (arith, m, ap (λ (h : Header). h.operations) (same (goal.at.returns c).After-read-h)))
    (omega (arith, n))
    (rw w at c.all.ensures.0)
    (rw (w, ap (λ (h : Header). h.ticks) (same (goal.at.returns c).After-read-h)) at c.most.ensures)
