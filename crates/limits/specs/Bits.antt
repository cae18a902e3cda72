-- The bits of a number as a set.
use Rattle.std.specs.Prelude.{Bool, ℕ, zero, suc, ◌/◌, ◌%◌, eqb}

-- is k in the set m: is its kth binary digit 1
unfoldable pub bit : ℕ → ℕ → Bool
bit zero m = eqb (m % 2) 1
bit (suc k) m = bit k (m / 2)
