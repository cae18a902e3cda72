-- Where reading and writing have come to.
use Rattle.std.specs.Prelude.{◌≡◌, ℕ, ◌+◌}
use Rattle.moving.specs.declared.Places.{Places}

-- the most bits that are copied as one number
abbrev pub piece_bits : ℕ
piece_bits = 56

-- behind so many bits read, and so many written
pub record Behind (at : Places) (read written : ℕ) (r : Places) : Type 0 where
  pub from : r.from ≡ at.from + read
  pub to : r.to ≡ at.to + written
