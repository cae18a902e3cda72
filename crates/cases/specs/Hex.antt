-- How the cases write byte strings: as one hexadecimal number; and the buffers that are lent.
use Rattle.std.specs.Prelude.{List, [], ◌∷◌, ◌++◌, ℕ, zero, suc, ◌/◌, ◌%◌, replicate}

-- its n bytes, the highest first
unfoldable pub hex : ℕ → ℕ → List ℕ
hex zero x = []
hex (suc n) x = hex n (x / 256) ++ (x % 256 ∷ [])

-- a buffer of so many bytes, all 255
abbrev pub lent : ℕ → List ℕ
lent n = replicate n 255
