-- `judge_answers` tests all pairs of answers that are to their reads.
-- It stands on the plan's writes, and on the answers being to its reads.
use mathlib.Core.Path.{sym}
use native.Mathlib.Omega.{arith}
use Rattle.plan.specs.Packed.{plan_of}
use Rattle.plan.proofs.Accept.{playable}
use Rattle.results.specs.Judge.{answer_allowed}
use Rattle.fitting.proofs.{Passed.is_to_lem, Decoded.few_answers}
use Rattle.judge.proofs.judge_answers.Goals as goal

pub of_plan-times-requires : goal.of_plan-times-requires
of_plan-times-requires c = (playable c.args.width _ c.args.count c.requires.0.checked, c.requires.1)

pub all_allowed-requires : goal.all_allowed-requires
all_allowed-requires c =
    (few_answers c.args.width c.args.plan.now c.args.count c.requires.0.checked, c.requires.1, omega (arith, c.requires.0.size))

pub returns : goal.returns
unfolding answer_allowed
returns c = let a = c.args in
    c.all_allowed.ensures (plan_of a.width a.plan.now) c.of_plan-times.ensures.tables c.of_plan-times.ensures.delta_is
    (λ i l. sym (is_to_lem a.width a.plan.now a.answers.now a.count c.requires.0 i l).begin)
