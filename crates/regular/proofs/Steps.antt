-- One turn more of the loop: the last of a row of tests that passes.
-- It stands on the definition alone.
use mathlib.Core.Path.{◌≡◌}
use mathlib.Core.Bool.{Bool, true, false, not}
use Prim.Native.Nat.{ℕ, ◌+◌, ◌<◌}
use native.Mathlib.Omega.{arith}
use native.Mathlib.Decide.{ℕ_discrete}
use lib.Dec.{T}
use Rattle.regular.specs.Tables.{Last}

module _ (passes : ℕ → Bool) where
  pub last_none : Last passes 1 0
  last_none = record { below = omega arith; passing = λ p. absurd (omega arith); failing = λ j a b. absurd (omega arith) }

  pub last_taken : (j : ℕ) → passes j ≡ true → Last passes (j + 1) j
  last_taken j e = record { below = omega arith; passing = λ p. rw e tt; failing = λ k a b. absurd (omega arith) }

  pub last_left : (j last : ℕ) → passes j ≡ false → Last passes j last → Last passes (j + 1) last
  last_left j last e L = record { below = omega (arith, L.below); passing = L.passing; failing = later }
    where
      go : (k : ℕ) → last < k → k < j + 1 → Dec (k ≡ j) → T (not (passes k))
      go k a b (yes d) = rw (d, e) tt
      go k a b (no d) = L.failing k a (omega arith)

      later : (k : ℕ) → last < k → k < j + 1 → T (not (passes k))
      later k a b = go k a b (ℕ_discrete k j)
