-- Judge by document 01's reading of 'finished before', which request Four changed. Nothing is judged by it.
use Rattle.std.specs.Prelude.{◌≡◌, Bool, true, List, ℕ, ◌*◌, eqb, length}
use Rattle.register.specs.Lists.{all_up_to, In}
use Rattle.register.specs.Plan.{Plan, Write, write_end}
use Rattle.register.specs.Stricter.{allowed01}
use Rattle.plan.specs.Packed.{plan_of}
use Rattle.plan.specs.Check.{Outcome, refused, result, unless, check_of}
use Rattle.answers.specs.Answers.{answer_size, pair_in}
use Rattle.results.specs.Judge.{read_of, answer_fits, judge_of}

module _ (w : ℕ) (s a : List ℕ) where
  unfoldable pub answer_allowed01 : ℕ → Bool
  answer_allowed01 i = let P : Plan = plan_of w s in allowed01 P (read_of P i) (pair_in w a i)

  unfoldable pub judge_after01 : Outcome ℕ → Outcome Bool
  judge_after01 (refused number) = refused number
  judge_after01 (result m) =
      unless (eqb (length a) (answer_size w * m)) 12
      (unless (all_up_to m (answer_fits w s a)) 13
      (result (all_up_to m answer_allowed01)))

  unfoldable pub judge_of01 : Outcome Bool
  judge_of01 = judge_after01 (check_of w s)

-- Four: 'Judge becomes stricter'.
pub record JudgeStricter (w : ℕ) (s a : List ℕ) : Type 0 where
  -- what it says yes to now it said yes to before
  pub kept : judge_of w s a ≡ result true → judge_of01 w s a ≡ result true
  -- and where no read begins in the tick in which a write ends, its verdict is as it was
  pub same : ((i : ℕ) (v : Write) → In v (plan_of w s).writes → write_end (plan_of w s) v ≡ (read_of (plan_of w s) i).begun → ⊥) → judge_of w s a ≡ judge_of01 w s a
