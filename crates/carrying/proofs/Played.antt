-- 'A plan carried over gets the same answers with the wider field', of Play: what it returns and writes for the carried plan.
-- It stands on what Check says of a carried plan and on the answers in bytes.
use mathlib.Core.Path.{◌≡◌}
use mathlib.Core.Bool.{true}
use mathlib.Core.List.{List, ◌++◌}
use Prim.Native.Nat.{ℕ, ◌*◌, ◌≤◌}
use lib.ListN.{length, drop}
use borrow.Author.Tests.{le-ltb}
use Rattle.plan.specs.Check.{result, check_of}
use Rattle.answers.specs.Answers.{answer_size}
use Rattle.answers.specs.Workspace.{workspace_size, zeroed}
use Rattle.results.specs.Play.{play_after, play_of}
use Rattle.carrying.specs.{Carrying.carried_plan, Carrying.values_fit, Answers.carried_answers}
use Rattle.carrying.proofs.Back.{carried_accepted}
use Rattle.carrying.proofs.Answers.{answers_carried}

pub carried_played : (v w : ℕ) (s : List ℕ) (m : ℕ) → check_of v s ≡ result m → values_fit v w s ≡ true → (answers workspace : List ℕ)
    → answer_size w * m ≤ length answers → workspace_size ≤ length workspace
    → play_of w (carried_plan v w s) answers workspace
    ≡ record { outcome = result m; answers = carried_answers v w s ++ drop (answer_size w * m) answers; workspace = zeroed workspace }
unfolding play_of play_after
carried_played v w s m accepted fit answers workspace a b =
    rw (
      carried_accepted v w s fit m accepted,
      le-ltb (length answers) (answer_size w * m) a,
      le-ltb (length workspace) workspace_size b,
      answers_carried v w s m accepted fit,
    )
