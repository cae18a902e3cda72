-- What the code works with: a plan's writes in tables by number, and the last of a row of tests that passes.
use Rattle.std.specs.Prelude.{◌≡◌, Bool, not, List, ℕ, ◌<◌, T, length, get_or}
use Rattle.register.specs.Plan.{Plan, stamped}
use Rattle.tables.specs.Operations.{no_write, Written}

-- the tables have the plan's initial pair and its writes, which begin one after the other
pub record Tables (w : ℕ) (P : Plan) (values begun : List ℕ) (m : ℕ) : Type 0 where
  pub initial : P.initial ≡ stamped w (get_or values 0 0) 0
  pub written : Written w P.writes (get_or values 0 0) values begun m
  pub rising : (i j : ℕ) → i < j → j < length P.writes → (get_or P.writes i no_write).begun < (get_or P.writes j no_write).begun

-- r is the last of the numbers 1 .. m - 1 that passes the test, or 0
pub record Last (passes : ℕ → Bool) (m r : ℕ) : Type 0 where
  pub below : r < m
  pub passing : 0 < r → T (passes r)
  pub failing : (j : ℕ) → r < j → j < m → T (not (passes j))
