-- Play (document 01, 'Operations of the library'): its result and both lent buffers, for all inputs.
use Rattle.std.specs.Prelude.{cond, List, ◌++◌, ℕ, ◌*◌, ltb, length, drop}
use Rattle.plan.specs.Form.{width_of}
use Rattle.plan.specs.Check.{Outcome, refused, result, check_of, check_in}
use Rattle.answers.specs.Answers.{answer_size, answers_of}
use Rattle.answers.specs.Workspace.{workspace_size, zeroed}

-- What Play returns, and the lent bytes afterwards.
pub record Played : Type 0 where
  pub outcome : Outcome ℕ
  pub answers : List ℕ
  pub workspace : List ℕ

module _ (w : ℕ) (s answers workspace : List ℕ) where
  -- 'A refusal returns its number alone and lent bytes keep their contents.'
  abbrev pub play_refused : ℕ → Played
  play_refused number = record { outcome = refused number; answers = answers; workspace = workspace }

  unfoldable pub play_after : Outcome ℕ → Played
  play_after (refused number) = play_refused number
  play_after (result m) =
      cond (ltb (length answers) (answer_size w * m))
      (play_refused 9)
      (cond (ltb (length workspace) workspace_size)
      (play_refused 10)
      (record { outcome = result m; answers = answers_of w s ++ drop (answer_size w * m) answers; workspace = zeroed workspace }))

  -- 'Check's refusals; 9 under 5 bytes for each read; 10 workspace under 60,000 bytes. It returns the number of reads; buffer bytes past the
  -- answers are unchanged'
  unfoldable pub play_of : Played
  play_of = play_after (check_of w s)

-- Ten: 'The caller names the form'; '9 .. count[s] the form's answer bytes'
unfoldable pub play_in : ℕ → List ℕ → List ℕ → List ℕ → Played
play_in form s answers workspace = play_after (width_of form) s answers workspace (check_in form s)
