-- `all_fit` tests every answer's read. The invariant: all answers passed fit.
use mathlib.Core.Path.{sym, ◌∙◌}
use native.Mathlib.Omega.{arith}
use borrow.Author.Tests.{not-true, not-false}
use Rattle.plan.proofs.Laws.{all_none, all_more, all_stop, all_end}
use Rattle.bits.proofs.Records.{record_inside}
use Rattle.answers.specs.Answers.{answer_size}
use Rattle.fitting.proofs.all_fit.Invariants.{fits}
use Rattle.fitting.proofs.all_fit.Goals as goal

pub loop-i-init : goal.loop-i-init
loop-i-init c = all_none _

pub is_fitting-requires : goal.is_fitting-requires
is_fitting-requires c = let i = c.loop-i.i in
    let l = c.loop-i-test.true in
    (omega (arith, c.requires.2, record_inside (answer_size c.args.width) i c.args.count l), omega (arith, c.requires.0), c.requires.1)

pub returns-then-not-is_fitting : goal.returns-then-not-is_fitting
returns-then-not-is_fitting c = let a = c.args in
    let l = c.loop-i in
    sym (all_stop (fits a.width a.answers.now a.begun.now a.reader.now) l.i a.count (omega arith)
    (sym c.is_fitting.ensures ∙ not-true _ c.if-not-is_fitting.true-raw))

pub loop-i-preserved : goal.loop-i-preserved
loop-i-preserved c = let a = c.args in
    let l = c.loop-i in
    all_more (fits a.width a.answers.now a.begun.now a.reader.now) l.i l.invariant (sym c.is_fitting.ensures ∙ not-false _ c.if-not-is_fitting.false-raw)

pub returns : goal.returns
returns c = let a = c.args in
    let l = c.loop-i in
    all_end (fits a.width a.answers.now a.begun.now a.reader.now) l.i a.count (omega arith) (omega arith) l.invariant
