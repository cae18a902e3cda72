-- Judge (document 01, 'Operations of the library'): its result, for all inputs.
use Rattle.std.specs.Prelude.{Bool, ◌&&◌, List, ℕ, ◌*◌, eqb, length, get_or}
use Rattle.register.specs.Lists.{all_up_to}
use Rattle.register.specs.Plan.{Plan, Read}
use Rattle.register.specs.Regular.{allowed}
use Rattle.plan.specs.Packed.{plan_of}
use Rattle.plan.specs.Form.{width_of}
use Rattle.plan.specs.Check.{Outcome, refused, result, unless, check_of, check_in}
use Rattle.answers.specs.Answers.{answer_size, begin_in, reader_in, pair_in, zero_in}

-- read i of a plan
abbrev pub read_of : Plan → ℕ → Read
read_of P i = get_or P.reads i (record { begun = 0; reader = 0 })

module _ (w : ℕ) (s a : List ℕ) where
  -- '13 an answer whose begin, screen or zero bit isn't that of its read'
  unfoldable pub answer_fits : ℕ → Bool
  answer_fits i =
      let r : Read = read_of (plan_of w s) i in
      eqb (begin_in w a i) r.begun && (eqb (reader_in w a i) r.reader && eqb (zero_in w a i) 0)

  -- 'on cue and number only': the last finished pair or one being written
  unfoldable pub answer_allowed : ℕ → Bool
  answer_allowed i = let P : Plan = plan_of w s in allowed P (read_of P i) (pair_in w a i)

  unfoldable pub judge_after : Outcome ℕ → Outcome Bool
  judge_after (refused number) = refused number
  judge_after (result m) =
      unless (eqb (length a) (answer_size w * m)) 12
      (unless (all_up_to m answer_fits) 13
      (result (all_up_to m answer_allowed)))

  -- 'Check's refusals; 12 length other than 5 times the reads; 13 .. Then yes or no'
  unfoldable pub judge_of : Outcome Bool
  judge_of = judge_after (check_of w s)

-- Ten: 'The caller names the form'; '12 count[s] the form's answer bytes'
unfoldable pub judge_in : ℕ → List ℕ → List ℕ → Outcome Bool
judge_in form s a = judge_after (width_of form) s a (check_in form s)
