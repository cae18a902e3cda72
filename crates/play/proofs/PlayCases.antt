-- Each way that Play ends, in a form, as its definition has it.
-- It stands on the definitions alone.
use mathlib.Core.Path.{◌≡◌}
use mathlib.Core.List.{List, ◌++◌}
use Prim.Native.Nat.{ℕ, ◌*◌, ◌≤◌, ◌<◌}
use lib.ListN.{length, drop}
use borrow.Author.Tests.{lt-ltb, le-ltb}
use Rattle.plan.specs.Form.{width_of}
use Rattle.plan.specs.Check.{refused, result, check_in}
use Rattle.answers.specs.Answers.{answer_size, answers_of}
use Rattle.answers.specs.Workspace.{workspace_size, zeroed}
use Rattle.results.specs.Play.{Played, play_after, play_in}

module _ (form : ℕ) (s answers workspace : List ℕ) where
  abbrev refused_by : ℕ → Played
  refused_by number = record { outcome = refused number; answers = answers; workspace = workspace }

  pub play_checked : (n : ℕ) → check_in form s ≡ refused n → refused_by n ≡ play_in form s answers workspace
  unfolding play_in play_after
  play_checked n e = rw e

  -- so many bytes has an answer
  module _ (m : ℕ) (accepted : check_in form s ≡ result m) (size : ℕ) (sized : size ≡ answer_size (width_of form)) where
    pub play_nine : length answers < size * m → refused_by 9 ≡ play_in form s answers workspace
    unfolding play_in play_after
    play_nine h = rw (accepted, ← sized, lt-ltb (length answers) (size * m) h)

    module _ (long : size * m ≤ length answers) where
      pub play_ten : length workspace < workspace_size → refused_by 10 ≡ play_in form s answers workspace
      unfolding play_in play_after
      play_ten h = rw (accepted, ← sized, le-ltb (length answers) (size * m) long, lt-ltb (length workspace) workspace_size h)

      pub play_done : workspace_size ≤ length workspace → (a w : List ℕ) → a ≡ answers_of (width_of form) s ++ drop (size * m) answers → w ≡ zeroed workspace
          → record { outcome = result m; answers = a; workspace = w } ≡ play_in form s answers workspace
      unfolding play_in play_after
      play_done h a w ea ew = rw (accepted, ← sized, le-ltb (length answers) (size * m) long, le-ltb (length workspace) workspace_size h, ea, ew)
