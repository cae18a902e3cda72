-- What Forecast returns, as a number, and its six numbers in a list that the caller lends. Built on the operation's own definition.
use Rattle.std.specs.Prelude.{List, [], ◌∷◌, ◌++◌, ℕ, length, take, drop}
use Rattle.plan.specs.Check.{Outcome, refused, result}
use Rattle.forecast.specs.Forecast.{Counts, forecast_in}
use Rattle.codes.specs.Codes.{code_of, in_numbers}

-- in the order in which document 02 names them
abbrev pub figures_of : Counts → List ℕ
figures_of x = x.answer_bytes ∷ x.moves ∷ x.write_messages ∷ x.read_messages ∷ x.votes ∷ x.most_forgeries ∷ []

-- how many they are
abbrev pub figure_count : ℕ
figure_count = 6

-- a list with as many of the figures at its start as fit it, the numbers behind them as they were
unfoldable pub figures_over : List ℕ → List ℕ → List ℕ
figures_over figures lent = take (length lent) figures ++ drop (length figures) lent

-- those of an outcome; a refusal has none
abbrev pub figures_in : Outcome Counts → List ℕ
figures_in (refused number) = []
figures_in (result x) = figures_of x

-- What Forecast returns as a number, how many figures there are or the refusal, and the lent list afterwards.
pub record Coded : Type 0 where
  pub code : ℕ
  pub numbers : List ℕ

abbrev pub coded_over : List ℕ → Outcome Counts → Coded
coded_over numbers o = record { code = code_of (in_numbers (λ x. figure_count) o); numbers = figures_over (figures_in o) numbers }

-- Forecast in a form
abbrev pub forecast_coded : ℕ → List ℕ → List ℕ → Coded
forecast_coded form plan numbers = coded_over numbers (forecast_in form plan)
