-- What reading a record asks.
use Rattle.std.specs.Prelude.{Bool, true, ◌&&◌, List, [], ◌∷◌, ℕ, ◌+◌, ◌*◌, ◌^◌, ◌≤◌, ◌<◌, T, leb, length}
use Rattle.bits.specs.Layout.{total}

-- no field is wider than so many bits
unfoldable pub no_wider : ℕ → List ℕ → Bool
no_wider most [] = true
no_wider most (v ∷ vs) = leb v most && no_wider most vs

-- a record of these widths stands from bit `at` on
pub record Stands (s : List ℕ) (at : ℕ) (widths : List ℕ) : Type 0 where
  pub inside : at + total widths ≤ 8 * length s
  pub near : at + total widths < 2 ^ 60
  pub narrow : T (no_wider 32 widths)
