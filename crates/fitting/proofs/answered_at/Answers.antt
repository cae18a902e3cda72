-- `answered_at` meets the definition behind Check: the length, then all reads.
-- It stands on Decoded, which says what is decoded of an accepted plan.
use mathlib.Core.Path.{◌≡◌, sym, ◌∙◌}
use Prim.Native.Nat.{◌*◌, ◌≤◌}
use native.Mathlib.Nat.{mul-le-mul}
use native.Mathlib.Omega.{arith}
use lib.ListN.{length}
use borrow.Author.Tests.{ne_eqb, eq-eqb, not-true, not-false}
use Rattle.register.specs.Lists.{all_up_to}
use Rattle.plan.specs.{Header.placement_at, Header.moves, Shape.shape, Playable.Playable}
use Rattle.plan.proofs.Accept.{playable, header_there}
use Rattle.answers.specs.Answers.{answer_size}
use Rattle.answers.proofs.Lengths.{answer_few}
use Rattle.tables.proofs.Standing.{operations_room}
use Rattle.tables.proofs.Forging.{shape_ranged}
use Rattle.results.specs.Judge.{answer_fits}
use Rattle.fitting.specs.Answered.{answered_after}
use Rattle.fitting.proofs.Decoded.{few_answers, fits_same}
use Rattle.fitting.proofs.answered_at.Goals.{After-all_fit, After-operations_at, Start}
use Rattle.fitting.proofs.answered_at.Goals as goal

plays : (c : Start) → Playable c.args.width c.args.plan.now
plays c = playable c.args.width _ c.args.count c.requires.0

few : (c : Start) → c.args.count ≤ 255
few c = few_answers c.args.width c.args.plan.now c.args.count c.requires.0

-- where the operations start, at the width that was asked for
starts : (c : After-operations_at) → c.operations_at.result ≡ placement_at c.args.width (moves (shape c.read-shape.result))
starts c = rw c.read-shape.ensures.1 at c.operations_at.ensures.0

-- as many bytes as the answers have
equal : (c : After-operations_at) → length c.args.answers.now ≡ answer_size c.args.width * c.args.count
equal c = rw c.size.ensures at c.if-answers-size.false

-- the loop's result, by the definition of 13
fits : (c : After-all_fit) → let a = c.args in
    all_up_to a.count (answer_fits a.width a.plan.now a.answers.now) ≡ c.all_fit.result
fits c =
    let starts : c.operations_at.result ≡ placement_at c.args.width (moves (shape c.read-shape.result)) = rw c.read-shape.ensures.1 at c.operations_at.ensures.0 in
    sym (c.all_fit.ensures ∙ fits_same c.args.width c.args.plan.now c.args.count c.requires.0 c.read-shape.result c.read-shape.ensures.0
    c.operations_at.result (starts) _ _ _ (rw c.from.ensures at c.reads_of-reads.ensures) c.args.answers.now)

pub overflow_mul-size : goal.overflow_mul-size
overflow_mul-size c = let size : c.size.result ≤ 6 = rw c.size.ensures (answer_few c.args.width c.requires.1) in
    omega (arith, mul-le-mul {n₂ = 6} {m₂ = 255} size (few (goal.at.overflow_mul-size c).Start))

pub returns-then-answers-size : goal.returns-then-answers-size
unfolding answered_after
returns-then-answers-size c = rw (ne_eqb _ _ (rw c.size.ensures at c.if-answers-size.true))

pub read-shape-requires : goal.read-shape-requires
read-shape-requires c = (header_there c.args.width c.args.plan.now (plays (goal.at.read-shape-requires c).Start), c.requires.1)

pub operations_at-requires : goal.operations_at-requires
operations_at-requires c = (shape_ranged c.args.width c.args.plan.now (plays (goal.at.operations_at-requires c).Start) c.read-shape.result c.read-shape.ensures.0, rw c.read-shape.ensures.1 c.requires.1)

pub reads_of-reads-requires : goal.reads_of-reads-requires
reads_of-reads-requires c = let h = c.read-shape in
    rw c.from.ensures (operations_room c.args.width c.args.plan.now (plays (goal.at.reads_of-reads-requires c).Start) h.result h.ensures.0 c.operations_at.result (starts (goal.at.reads_of-reads-requires c).After-operations_at) c.requires.1)

pub all_fit-requires : goal.all_fit-requires
all_fit-requires c = (few (goal.at.all_fit-requires c).Start, c.requires.1, omega (arith, equal (goal.at.all_fit-requires c).After-operations_at))

pub returns-then-not-all_fit : goal.returns-then-not-all_fit
unfolding answered_after
returns-then-not-all_fit c = rw (eq-eqb _ _ (equal (goal.at.returns-then-not-all_fit c).After-operations_at), fits (goal.at.returns-then-not-all_fit c).After-all_fit ∙ not-true _ c.if-not-all_fit.true-raw)

pub returns : goal.returns
unfolding answered_after
returns c = rw (eq-eqb _ _ (equal (goal.at.returns c).After-operations_at), fits (goal.at.returns c).After-all_fit ∙ not-false _ c.if-not-all_fit.false-raw)
