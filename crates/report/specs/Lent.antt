-- What the gate's programs print of lent bytes and of long plans.
use Rattle.std.specs.Prelude.{Bool, List, [], ◌∷◌, ℕ, ◌+◌, ◌*◌, ◌%◌, eqb, length, get_or}
use Rattle.register.specs.Lists.{all_up_to}

-- what each lent byte holds before the call
abbrev pub filler : ℕ
filler = 165

-- does each byte still hold it
unfoldable pub are_kept : List ℕ → Bool
are_kept bytes = all_up_to (length bytes) (λ i. eqb (get_or bytes i 0) filler)

-- a check sum with one byte more
abbrev pub sum_with : ℕ → ℕ → ℕ
sum_with sum byte = (sum * 257 + byte) % 2147483647

-- the bytes as digits behind a sum
unfoldable pub sum_from : ℕ → List ℕ → ℕ
sum_from sum [] = sum
sum_from sum (byte ∷ bytes) = sum_from (sum_with sum byte) bytes
