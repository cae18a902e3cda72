-- Forecasts computed from the definitions, which count in the run of the step rules; and plans that are refused.
use mathlib.Core.Path.{◌≡◌, refl}
use Prim.Native.Nat.{ℕ}
use Rattle.traffic.specs.Traffic as traffic
use Rattle.plan.specs.Check.{Outcome, refused, result, check_in}
use Rattle.forecast.specs.Forecast.{Counts, counts_of, forecast_after, forecast_in}
use Rattle.cases.specs.{FormTwo.one_read_two, Starred.one_read, Starred.takeover, Starred.four}
use Rattle.cases.proofs.Opened.{opened}
use Rattle.cases.proofs.NotEmpty.{four_periods, six_periods}

-- the definitions that a forecast computes with besides
sending : ℕ
unfolding opened traffic.sum traffic.largest traffic.writes_sent traffic.reads_sent traffic.delivered traffic.votes_by traffic.votes_sent traffic.forged_arriving
sending = 0

counting : ℕ
unfolding sending check_in counts_of forecast_after forecast_in one_read_two four_periods six_periods
counting = 0

-- the six numbers, in document 02's order
abbrev takes : (answers moves writes reads votes forgeries : ℕ) → Outcome Counts
takes answers moves writes reads votes forgeries =
    result (record { answer_bytes = answers; moves = moves; write_messages = writes; read_messages = reads; votes = votes; most_forgeries = forgeries })

pub first : forecast_in 1 one_read ≡ takes 5 3 0 1 0 0
unfolding counting
first = refl

pub first_two : forecast_in 2 one_read_two ≡ takes 6 3 0 1 0 0
unfolding counting
first_two = refl

-- server 0 is faulty when the WRITE reaches it
pub taken_over : forecast_in 1 takeover ≡ takes 0 2 5 0 16 0
unfolding counting
taken_over = refl

-- at the second WRITE one server is faulty, and one cured
pub one_cured : forecast_in 1 four_periods ≡ takes 10 4 10 10 32 3
unfolding counting
one_cured = refl

-- the WRITE arrives in the tick of a movement: who is faulty before it sends no vote, who is faulty after it does
pub at_a_movement : forecast_in 1 six_periods ≡ takes 5 6 6 6 25 2
unfolding counting
at_a_movement = refl

pub too_few : forecast_in 1 four ≡ refused 3
unfolding counting
too_few = refl

pub no_form : forecast_in 3 one_read ≡ refused 1
unfolding counting
no_form = refl
