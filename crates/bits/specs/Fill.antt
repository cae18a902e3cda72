-- The bits that fill the last unit of a packed format (document 02, 'Three'): a byte today, or a wider one.
use Rattle.std.specs.Prelude.{◌≡◌, ℕ, ◌+◌, ◌-◌, ◌/◌, ◌%◌, ◌≤◌}

-- '8 less the remainder by 8 of the bits before them, and the remainder by 8 of that', with any unit in place of 8
abbrev pub fill : ℕ → ℕ → ℕ
fill unit bits = (unit - bits % unit) % unit

-- 'the least number that fills the last unit'
pub record FillsLeast (unit bits m : ℕ) : Type 0 where
  pub whole : (bits + m) % unit ≡ 0
  pub least : (other : ℕ) → (bits + other) % unit ≡ 0 → m ≤ other

-- the bytes that hold so many bits, and those that fill the last byte
abbrev pub bytes_for : ℕ → ℕ
bytes_for bits = (bits + fill 8 bits) / 8
