-- Numbers of four bits, one behind the other.
use Rattle.std.specs.Prelude.{◌≡◌, ◌⊎◌, List, [], ◌∷◌, ℕ, ◌+◌, ◌*◌, ◌%◌, ◌^◌, ◌≤◌, ◌<◌, length, get_or}
use Rattle.bits.specs.Field.{bit_of}
use Rattle.bits.specs.Layout.{records, packed_bits}

-- the bits of a number
abbrev pub width : ℕ
width = 4

-- what a number is below
abbrev pub limit : ℕ
limit = 2 ^ width

-- two numbers fill a byte
abbrev pub pair_width : ℕ
pair_width = 2 * width

-- what a byte is below
abbrev pub pair_limit : ℕ
pair_limit = limit * limit

-- a field for each number
abbrev pub fields_of : List ℕ → List ℕ
fields_of xs = records (length xs) (width ∷ [])

-- the bits of all numbers
abbrev pub all_bits : List ℕ → List ℕ
all_bits xs = packed_bits (fields_of xs) xs

-- the lowest bits of numbers 2k and 2k + 1, as a byte
abbrev pub pair_of : List ℕ → ℕ → ℕ
pair_of xs k = get_or xs (2 * k) 0 % limit * limit + get_or xs (2 * k + 1) 0 % limit

-- of these bits, whose first belongs to bit `at`, those from `from` to before `to` stand, and every other bit of the bytes is as it was
pub record Part (before after : List ℕ) (at : ℕ) (bits : List ℕ) (from to : ℕ) : Type 0 where
  pub size : length after ≡ length before
  pub inside : (i : ℕ) → from ≤ i → i < to → bit_of after (at + i) ≡ get_or bits i 0
  pub other : (i : ℕ) → (i < at + from) ⊎ (at + to ≤ i) → bit_of after i ≡ bit_of before i
