-- `all_allowed` tests every answer's pair. The invariant: all answers passed are allowed, in every plan that the tables say.
use mathlib.Core.Path.{◌≡◌, sym, ◌∙◌}
use Prim.Native.Nat.{◌+◌, ◌*◌, ◌≤◌}
use native.Mathlib.Omega.{arith}
use borrow.Author.Tests.{not-true, not-false}
use lib.ListN.{length}
use Rattle.register.specs.Plan.{Plan}
use Rattle.plan.proofs.Laws.{all_none, all_more, all_stop, all_end}
use Rattle.bits.proofs.Records.{record_inside}
use Rattle.answers.specs.Answers.{answer_size}
use Rattle.results.specs.Judge.{read_of}
use Rattle.regular.specs.Tables.{Tables}
use Rattle.judge.proofs.all_allowed.Invariants.{allowed_at, Begun}
use Rattle.judge.proofs.all_allowed.Goals.{After-is_allowed, In-loop-i}
use Rattle.judge.proofs.all_allowed.Goals as goal

tested : (c : After-is_allowed) (P : Plan)
    → Tables c.args.width P c.args.times.now.writes.known.values c.args.times.now.writes.begun c.args.times.now.writes.known.m → P.delta ≡ c.args.times.now.delta
    → Begun c.args.width P c.args.answers.now c.args.count
    → allowed_at c.args.width P c.args.answers.now c.loop-i.i ≡ c.is_allowed.result
tested c P W d b =
    let is = c.read-answer.ensures in
    rw (← is.pair)
    (sym (c.is_allowed.ensures c.args.width P (read_of P c.loop-i.i) is.value_hi W d (b c.loop-i.i (omega arith) ∙ sym is.begin)))

-- answer i lies in the buffer
inside : (c : In-loop-i) → let a = c.args in
    answer_size a.width * c.loop-i.i + answer_size a.width ≤ length a.answers.now
inside c = omega (arith, c.requires.2, record_inside (answer_size c.args.width) c.loop-i.i c.args.count c.loop-i-test.true)

pub loop-i-init : goal.loop-i-init
loop-i-init c = λ P W d b. all_none (allowed_at c.args.width P c.args.answers.now)

pub read-answer-requires : goal.read-answer-requires
read-answer-requires c = (inside (goal.at.read-answer-requires c).In-loop-i, omega (arith, c.requires.0, c.loop-i-test.true), c.requires.1)

pub returns-then-not-is_allowed : goal.returns-then-not-is_allowed
returns-then-not-is_allowed c = λ P W d b.
    let a = c.args in
    let l = c.loop-i in
    sym (all_stop (allowed_at a.width P a.answers.now) l.i a.count (omega arith) (tested (goal.at.returns-then-not-is_allowed c).After-is_allowed P W d b ∙ not-true _ c.if-not-is_allowed.true-raw))

pub loop-i-preserved : goal.loop-i-preserved
loop-i-preserved c = let a = c.args in
    let l = c.loop-i in
    λ P W d b. all_more (allowed_at a.width P a.answers.now) l.i (l.invariant P W d b) (tested (goal.at.loop-i-preserved c).After-is_allowed P W d b ∙ not-false _ c.if-not-is_allowed.false-raw)

pub returns : goal.returns
returns c = λ P W d b.
    let a = c.args in
    let l = c.loop-i in
    all_end (allowed_at a.width P a.answers.now) l.i a.count (omega arith) (omega arith) (l.invariant P W d b)
