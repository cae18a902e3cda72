-- As many figures as fit, at the start of a list; and that a caller can tell them from a refusal.
-- It stands on the definitions alone.
use mathlib.Core.Path.{◌≡◌}
use mathlib.Core.List.{List, [], ◌++◌}
use Prim.Native.Nat.{ℕ, min, ◌<◌}
use native.Mathlib.{Decide.dec_le, Omega.arith}
use lib.Dec.{lit<}
use lib.ListN.{length, take, drop, drop_of_length-le}
use lib.Seq.{take_all}
use Rattle.plan.specs.Check.{Outcome, refused, result}
use Rattle.forecast.specs.Forecast.{Counts}
use Rattle.codes.specs.Codes.{refused_from, in_numbers}
use Rattle.capi_forecast.specs.Figures.{figure_count, figures_over}

-- so many figures as there are, and as the list has room for
pub fitting : (figures lent : List ℕ) (n : ℕ) → n ≡ min (length lent) (length figures) → take n figures ++ drop n lent ≡ figures_over figures lent
unfolding figures_over
fitting figures lent n e = elim (dec_le (length figures) (length lent)) [
  | yes h ↦ (let m : n ≡ length figures = omega arith in rw (m, take_all (length figures) figures (omega arith), take_all (length lent) figures (omega arith)))
  | no h ↦ (let m : n ≡ length lent = omega arith in rw (m, drop_of_length-le lent {i = length lent} (omega arith), drop_of_length-le lent {i = length figures} (omega arith)))
]

-- a refusal leaves the list
pub none_over : (lent : List ℕ) → figures_over [] lent ≡ lent
unfolding figures_over
none_over lent = go (length lent)
  where
    go : (n : ℕ) → take {A = ℕ} n [] ++ drop 0 lent ≡ lent
    go n = rw (take_all {A = ℕ} n [] (omega arith))

-- the result is below every refusal's code
pub figures_below : (o : Outcome Counts) (m : ℕ) → in_numbers (λ x. figure_count) o ≡ result m → m < refused_from
figures_below (refused number) m e = let z : ◌≡◌ {A = ℕ} 0 1 = cc in absurd (omega arith)
figures_below (result x) m e = let z : figure_count ≡ m = cc in rw (← z) (lit< tt)
