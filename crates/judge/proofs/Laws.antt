-- Judge behind the tests of the answers: their refusals, else the verdict.
-- It stands on the definitions.
use mathlib.Core.Path.{◌≡◌, refl}
use mathlib.Core.Bool.{Bool, true, false}
use mathlib.Core.List.{List}
use Prim.Native.Nat.{ℕ, ◌*◌}
use lib.Dec.{eqb}
use lib.ListN.{length}
use Rattle.register.specs.Lists.{all_up_to}
use Rattle.plan.specs.Form.{width_of}
use Rattle.plan.specs.Check.{Outcome, refused, result, unless, check_in}
use Rattle.answers.specs.Answers.{answer_size}
use Rattle.results.specs.Judge.{answer_fits, answer_allowed, judge_after, judge_in}
use Rattle.fitting.specs.Answered.{answered_after, answered_in}

module _ (w : ℕ) (s a : List ℕ) where
  -- the verdict on answers that are to their reads
  abbrev pub verdict_after : Outcome ℕ → Outcome Bool
  verdict_after (refused number) = refused number
  verdict_after (result m) = result (all_up_to m (answer_allowed w s a))

  two-tests : (m : ℕ) (long fit : Bool) → unless long 12 (unless fit 13 (verdict_after (result m))) ≡ verdict_after (unless long 12 (unless fit 13 (result m)))
  two-tests m true true = refl
  two-tests m true false = refl
  two-tests m false fit = refl

  verdict : (o : Outcome ℕ) → judge_after w s a o ≡ verdict_after (answered_after w s a o)
  unfolding judge_after answered_after
  verdict (refused number) = refl
  verdict (result m) = two-tests m (eqb (length a) (answer_size w * m)) (all_up_to m (answer_fits w s a))

pub form_verdict : (form : ℕ) (s a : List ℕ) → judge_in form s a ≡ verdict_after (width_of form) s a (answered_in form s a)
unfolding judge_in answered_in
form_verdict form s a = verdict (width_of form) s a (check_in form s)
