-- What carrying a plan is to Check, to the answers and to the way back (document 02, 'Ten').
use Rattle.std.specs.Prelude.{◌≡◌, true, List, ℕ, length}
use Rattle.plan.specs.Check.{result, check_of}
use Rattle.answers.specs.Answers.{answers_of}
use Rattle.carrying.specs.Carrying.{carried_plan, values_fit}
use Rattle.carrying.specs.Kept.{Kept}
use Rattle.carrying.specs.Answers.{carried_answers}

-- A plan that is carried, with so many bytes written: both plans are accepted, with the same reads, every field keeps its number, the
-- carried plan 'gets the same answers with the wider field', and 'back and forth gives the same bytes'.
pub record Carried (v w : ℕ) (s : List ℕ) (m : ℕ) : Type 0 where
  pub bytes : m ≡ length (carried_plan v w s)
  pub reads : ℕ
  pub accepted : check_of v s ≡ result reads
  pub fit : values_fit v w s ≡ true
  pub checked : check_of w (carried_plan v w s) ≡ result reads
  pub kept : Kept v w s (carried_plan v w s)
  pub answers : answers_of w (carried_plan v w s) ≡ carried_answers v w s
  pub fit_back : values_fit w v (carried_plan v w s) ≡ true
  pub back : carried_plan w v (carried_plan v w s) ≡ s
