-- A number in decimal digits, as bytes.
use Rattle.std.specs.Prelude.{◌≡◌, cond, ◌⊎◌, List, [], ◌∷◌, ◌++◌, ℕ, zero, suc, ◌+◌, ◌*◌, ◌-◌, ◌/◌, ◌%◌, ◌≤◌, ◌<◌, ltb, length, get_or}

-- '0' to '9'
abbrev pub digit_byte : ℕ → ℕ
digit_byte d = 48 + d

-- the digits of n, if they are at most so many
unfoldable pub digits_within : ℕ → ℕ → List ℕ
digits_within zero n = []
digits_within (suc most) n = cond (ltb n 10) (digit_byte n ∷ []) (digits_within most (n / 10) ++ (digit_byte (n % 10) ∷ []))

-- the digits of n, the highest first; they are at most n + 1
unfoldable pub decimal_of : ℕ → List ℕ
decimal_of n = digits_within (suc n) n

-- the digits of a number of 64 bits
abbrev pub most_digits : ℕ
most_digits = 20

-- bytes read as digits behind those of n
unfoldable pub read_from : ℕ → List ℕ → ℕ
read_from n [] = n
read_from n (b ∷ bs) = read_from (n * 10 + (b - 48)) bs

-- what the digits of every number have: they are digits, a zero leads only alone, and read back they give the number
pub record Spells (bytes : List ℕ) (n : ℕ) : Type 0 where
  pub digits : (i : ℕ) → i < length bytes → (48 ≤ get_or bytes i 0) × (get_or bytes i 0 ≤ 57)
  pub leads : (length bytes ≡ 1) ⊎ (48 < get_or bytes 0 0)
  pub reads : read_from 0 bytes ≡ n
