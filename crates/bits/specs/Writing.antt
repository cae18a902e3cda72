-- What the writer leaves in a byte string.
use Rattle.std.specs.Prelude.{◌≡◌, ◌⊎◌, List, ℕ, ◌+◌, ◌≤◌, ◌<◌, length, get_or}
use Rattle.bits.specs.Field.{bit_of}

-- these bits stand from bit `at` on, and every other bit is as it was
pub record Wrote (before after : List ℕ) (at : ℕ) (bits : List ℕ) : Type 0 where
  pub size : length after ≡ length before
  pub inside : (i : ℕ) → i < length bits → bit_of after (at + i) ≡ get_or bits i 0
  pub other : (i : ℕ) → (i < at) ⊎ (at + length bits ≤ i) → bit_of after i ≡ bit_of before i
