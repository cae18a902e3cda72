-- A rehearsal: Play, then Judge over the answers that Play wrote. Its result and both lent buffers, for all inputs.
use Rattle.std.specs.Prelude.{Bool, true, false, List, ℕ, ◌*◌, take}
use Rattle.plan.specs.Form.{width_of}
use Rattle.plan.specs.Check.{Outcome, refused, result}
use Rattle.answers.specs.Answers.{answer_size}
use Rattle.results.specs.Play.{Played, play_of, play_in}
use Rattle.results.specs.Judge.{judge_of}

-- Judge's verdict on so many reads
pub data Verdict : Type 0 where
  yes : ℕ → Verdict
  no : Verdict

pub record Rehearsed : Type 0 where
  pub outcome : Outcome Verdict
  pub answers : List ℕ
  pub workspace : List ℕ

unfoldable pub verdict_on : ℕ → Outcome Bool → Outcome Verdict
verdict_on m (refused number) = refused number
verdict_on m (result true) = result (yes m)
verdict_on m (result false) = result no

module _ (w : ℕ) (s : List ℕ) where
  unfoldable pub rehearse_after : Outcome ℕ → List ℕ → Outcome Verdict
  rehearse_after (refused number) answers = refused number
  rehearse_after (result m) answers = verdict_on m (judge_of w s (take (answer_size w * m) answers))

  unfoldable pub rehearse_from : Played → Rehearsed
  rehearse_from p = record { outcome = rehearse_after p.outcome p.answers; answers = p.answers; workspace = p.workspace }

  unfoldable pub rehearse_of : List ℕ → List ℕ → Rehearsed
  rehearse_of answers workspace = rehearse_from (play_of w s answers workspace)

-- Ten: 'The caller names the form'
unfoldable pub rehearse_in : ℕ → List ℕ → List ℕ → List ℕ → Rehearsed
rehearse_in form s answers workspace = rehearse_from (width_of form) s (play_in form s answers workspace)
