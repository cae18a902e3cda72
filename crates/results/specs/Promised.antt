-- What Play promises of a plan that it does not refuse: point 3, for the very bytes that it left in the buffer.
use Rattle.std.specs.Prelude.{◌≡◌, true, List, ℕ, ◌*◌, take}
use Rattle.plan.specs.Check.{Outcome, result}
use Rattle.answers.specs.Answers.{answer_size}
use Rattle.results.specs.Judge.{judge_of}
use Rattle.results.specs.PointThree.{PointThree}

pub record Promised (w : ℕ) (s : List ℕ) (outcome : Outcome ℕ) (answers : List ℕ) : Type 0 where
  -- the plan has point 3, whole
  pub point : (m : ℕ) → outcome ≡ result m → PointThree w s
  -- and Judge says yes to the answers that stand in the buffer
  pub judged : (m : ℕ) → outcome ≡ result m → judge_of w s (take (answer_size w * m) answers) ≡ result true
