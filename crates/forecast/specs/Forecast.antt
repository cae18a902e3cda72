-- Forecast (document 02, 'Seven'): what playing a plan will take, for all inputs.
use Rattle.std.specs.Prelude.{List, ℕ, length}
use Rattle.register.specs.Lists.{count}
use Rattle.register.specs.Plan.{Plan, is_move}
use Rattle.traffic.specs.Traffic.{sum, largest, writes_sent, reads_sent, votes_sent, forgeries_in}
use Rattle.plan.specs.Form.{width_of}
use Rattle.plan.specs.Header.{header_of}
use Rattle.plan.specs.Packed.{plan_of}
use Rattle.plan.specs.Check.{Outcome, refused, result, check_in}
use Rattle.answers.specs.Answers.{answers_of}

-- 'bytes of answers, number of moves, WRITE messages sent, READ messages sent, votes sent on receipt of a WRITE, and the largest number of
-- forgeries arriving in one tick'
pub record Counts : Type 0 where
  pub answer_bytes : ℕ
  pub moves : ℕ
  pub write_messages : ℕ
  pub read_messages : ℕ
  pub votes : ℕ
  pub most_forgeries : ℕ

-- 'Only ticks below H count. Each is exactly what playing the plan counts.'
unfoldable pub counts_of : ℕ → List ℕ → Counts
counts_of w s =
    let P : Plan = plan_of w s in
    let H : ℕ = (header_of w s).ticks in
    record {
      answer_bytes = length (answers_of w s);
      moves = count (is_move P) H;
      write_messages = sum (writes_sent P) H;
      read_messages = sum (reads_sent P) H;
      votes = sum (votes_sent P) H;
      most_forgeries = largest (forgeries_in P) H;
    }

-- 'For an accepted plan .. give'; 'Any other plan gets Check's number.'
unfoldable pub forecast_after : ℕ → List ℕ → Outcome ℕ → Outcome Counts
forecast_after w s (refused number) = refused number
forecast_after w s (result m) = result (counts_of w s)

-- Ten: 'The caller names the form'
unfoldable pub forecast_in : ℕ → List ℕ → Outcome Counts
forecast_in form s = forecast_after (width_of form) s (check_in form s)
