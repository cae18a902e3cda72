-- Answers that are to the reads of their plan (document 01, Judge; document 02, 'Two'): Check's refusals, 12, 13, else the number of reads.
use Rattle.std.specs.Prelude.{◌≡◌, true, List, ℕ, ◌*◌, eqb, length}
use Rattle.register.specs.Lists.{all_up_to}
use Rattle.plan.specs.Form.{width_of}
use Rattle.plan.specs.Check.{Outcome, refused, result, unless, check_of, check_in}
use Rattle.answers.specs.Answers.{answer_size}
use Rattle.results.specs.Judge.{answer_fits}

module _ (w : ℕ) (s a : List ℕ) where
  -- '12 length other than 5 times the reads; 13 an answer whose begin, screen or zero bit isn't that of its read'
  unfoldable pub answered_after : Outcome ℕ → Outcome ℕ
  answered_after (refused number) = refused number
  answered_after (result m) =
      unless (eqb (length a) (answer_size w * m)) 12
      (unless (all_up_to m (answer_fits w s a)) 13
      (result m))

-- Ten: 'The caller names the form'; '12 count[s] the form's answer bytes'
unfoldable pub answered_in : ℕ → List ℕ → List ℕ → Outcome ℕ
answered_in form s a = answered_after (width_of form) s a (check_in form s)

-- the answers are to the m reads of an accepted plan
pub record Answered (w : ℕ) (s a : List ℕ) (m : ℕ) : Type 0 where
  pub checked : check_of w s ≡ result m
  pub size : length a ≡ answer_size w * m
  pub fit : all_up_to m (answer_fits w s a) ≡ true
