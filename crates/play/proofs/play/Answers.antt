-- `play` meets its contracts: each way that it ends is its definition's, and point 3 comes with that.
use mathlib.Core.Path.{◌≡◌, sym, ap, ◌∙◌}
use native.Mathlib.Omega.{arith}
use Rattle.std.proofs.lemmas.Result.{err_from_is_err_and}
use Rattle.plan.specs.{Form.width_of, Check.result, Check.check_of, Check.check_in}
use Rattle.plan.proofs.{Accept.playable, Accept.reads_counted, Forms.form_passed}
use Rattle.answers.{specs.Answers.answer_size, proofs.Lengths.answers_few}
use Rattle.results.proofs.Promised.{reads_few, promised}
use Rattle.play.proofs.PlayCases.{play_checked, play_nine, play_ten, play_done}
use Rattle.play.proofs.play.Goals.{After-size}
use Rattle.play.proofs.play.Goals as goal

-- the plan that Check accepted, and the bytes of an answer in its form
sized : (c : After-size) → c.size.result ≡ answer_size (width_of c.args.form)
sized c = c.size.ensures ∙ ap answer_size c.width-width.ensures.0

accepted : (c : After-size) → check_in c.args.form c.args.plan.now ≡ result c.in_ok-reads.reads
accepted c = sym c.in_ok-reads.ensures

-- and at the width of the form
checked-at : (c : After-size) → check_of c.width-width.result c.args.plan.now ≡ result c.in_ok-reads.reads
checked-at c = rw c.width-width.ensures.0 (form_passed _ _ _ (sym c.in_ok-reads.ensures)).1

pub overflow_mul-size : goal.overflow_mul-size
overflow_mul-size c = omega (arith, answers_few c.width-width.result _ _ c.width-width.ensures.1 c.size.ensures (reads_few _ _ _ (checked-at (goal.at.overflow_mul-size c).After-size)))

pub returns-then-answers-size : goal.returns-then-answers-size
returns-then-answers-size c = let e = play_nine _ _ _ _ _ (accepted (goal.at.returns-then-answers-size c).After-size) _ (sized (goal.at.returns-then-answers-size c).After-size) c.if-answers-size.true in
    record { work_after = e; promised = promised _ _ _ _ _ e }

pub returns-then-work-lt-WORKSPACE_BYTES : goal.returns-then-work-lt-WORKSPACE_BYTES
returns-then-work-lt-WORKSPACE_BYTES c = let e = play_ten _ _ _ _ _ (accepted (goal.at.returns-then-work-lt-WORKSPACE_BYTES c).After-size) _ (sized (goal.at.returns-then-work-lt-WORKSPACE_BYTES c).After-size) c.if-answers-size.false c.if-work-lt-WORKSPACE_BYTES.true in
    record { work_after = e; promised = promised _ _ _ _ _ e }

pub play-requires : goal.play-requires
play-requires c = let e = checked-at (goal.at.play-requires c).After-size in
    (playable _ _ _ e, c.width-width.ensures.1, rw (← reads_counted _ _ _ e, ← c.size.ensures) c.if-answers-size.false, c.if-work-lt-WORKSPACE_BYTES.false)

pub returns-in_err-reads : goal.returns-in_err-reads
returns-in_err-reads c = let p = err_from_is_err_and c.from_residual.result c.from_residual.ensures.1 in
    let e = play_checked _ _ _ _ _ (sym c.in_err-reads.ensures) in
    rw (p.1, p.2) (record { work_after = e; promised = promised _ _ _ _ _ e })

pub returns : goal.returns
returns c = let d = c.play.ensures in
    let a = rw (← reads_counted _ _ _ (checked-at (goal.at.returns c).After-size), ← c.size.ensures, c.width-width.ensures.0) at d.answers in
    let e = play_done _ _ _ _ _ (accepted (goal.at.returns c).After-size) _ (sized (goal.at.returns c).After-size) c.if-answers-size.false c.if-work-lt-WORKSPACE_BYTES.false _ _ a d.workspace in
    record { work_after = e; promised = promised _ _ _ _ _ e }
