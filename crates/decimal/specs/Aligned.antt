-- A word, and a number in decimal digits, right-aligned in columns.
use Rattle.std.specs.Prelude.{◌≡◌, List, ◌++◌, ℕ, ◌-◌, ◌^◌, ◌<◌, length, replicate}
use Rattle.decimal.specs.Decimal.{decimal_of, read_from}

abbrev pub space : ℕ
space = 32

abbrev pub line_feed : ℕ
line_feed = 10

abbrev pub spaces : ℕ → List ℕ
spaces n = replicate n space

-- a word at the right end of so many columns; one that is too long stands as it is
unfoldable pub right : ℕ → List ℕ → List ℕ
right columns word = spaces (columns - length word) ++ word

-- the digits of a number so
abbrev pub aligned : ℕ → ℕ → List ℕ
aligned columns n = right columns (decimal_of n)

-- what every number has in every width: read back, with a space counting nothing, it is the number; where it has not too many digits, it fills the columns
pub record Aligned (columns n : ℕ) (bytes : List ℕ) : Type 0 where
  pub reads : read_from 0 bytes ≡ n
  pub fills : 0 < columns → n < 10 ^ columns → length bytes ≡ columns
