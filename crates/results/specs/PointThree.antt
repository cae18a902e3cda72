-- Point 3, whole: one statement over a plan that Check accepts, whichever k it has, for all its reads.
use Rattle.std.specs.Prelude.{◌≡◌, true, List, ℕ, ◌*◌, take}
use Rattle.register.specs.Lists.{In}
use Rattle.register.specs.Plan.{Read}
use Rattle.register.specs.Promise.{Served}
use Rattle.plan.specs.Packed.{plan_of}
use Rattle.plan.specs.Check.{result}
use Rattle.answers.specs.Answers.{answer_size}
use Rattle.results.specs.Play.{play_of}
use Rattle.results.specs.Judge.{judge_of}

pub record PointThree (w : ℕ) (s : List ℕ) : Type 0 where
  -- every read: both counts, and an answer that the regular register allows with a count of (k+1)f+1 or more
  pub served : (r : Read) → In r (plan_of w s).reads → Served (plan_of w s) r
  -- Judge says yes to the bytes that Play writes, whatever was lent
  pub judged : (answers workspace : List ℕ) (m : ℕ)
      → (play_of w s answers workspace).outcome ≡ result m
      → judge_of w s (take (answer_size w * m) (play_of w s answers workspace).answers) ≡ result true
