-- Records of a packed format (document 02, 'One'): a record is a list of widths, one for each field, in packed order and with no gaps.
-- What is packed by such a list is read back by it.
use Rattle.std.specs.Prelude.{Bool, true, false, ◌&&◌, List, [], ◌∷◌, ◌++◌, ℕ, zero, suc, ◌+◌, ◌*◌, ◌/◌, ◌%◌, ◌^◌, ltb, length, get_or, drop}
use Rattle.bits.specs.Field.{field_of}
use Rattle.bits.specs.Fill.{bytes_for}

-- the bits of a record
abbrev pub total : List ℕ → ℕ
total [] = 0
total (v ∷ vs) = v + total vs

-- so many records of the same widths, one behind the other
unfoldable pub records : ℕ → List ℕ → List ℕ
records zero vs = []
records (suc m) vs = vs ++ records m vs

-- the record from bit `at` on, read field by field: the place of a field is behind the widths before it
abbrev pub numbers_at : List ℕ → List ℕ → ℕ → List ℕ
numbers_at [] s at = []
numbers_at (v ∷ vs) s at = field_of s at v ∷ numbers_at vs s (at + v)

-- the same out of one number, which has all bits of the record
abbrev pub numbers_in : List ℕ → ℕ → List ℕ
numbers_in [] all = []
numbers_in (v ∷ vs) all = all / 2 ^ total vs % 2 ^ v ∷ numbers_in vs all

-- there is a number for each field, and none is too wide for it
unfoldable pub fits : List ℕ → List ℕ → Bool
fits [] [] = true
fits [] (x ∷ xs) = false
fits (v ∷ vs) [] = false
fits (v ∷ vs) (x ∷ xs) = ltb x (2 ^ v) && fits vs xs

-- the lowest `width` bits of a number, the highest of them first
unfoldable pub bits_of : ℕ → ℕ → List ℕ
bits_of zero x = []
bits_of (suc width) x = bits_of width (x / 2) ++ (x % 2 ∷ [])

-- the numbers packed: the bits of each field, one behind the other
unfoldable pub packed_bits : List ℕ → List ℕ → List ℕ
packed_bits [] xs = []
packed_bits (v ∷ vs) [] = []
packed_bits (v ∷ vs) (x ∷ xs) = bits_of v x ++ packed_bits vs xs

-- the first `width` bits as a number; bits past the end are 0
unfoldable pub word_of : ℕ → List ℕ → ℕ
word_of zero bits = 0
word_of (suc width) bits = word_of width bits * 2 + get_or bits width 0

-- the first bits as so many bytes
unfoldable pub bytes_of : ℕ → List ℕ → List ℕ
bytes_of zero bits = []
bytes_of (suc n) bits = word_of 8 bits ∷ bytes_of n (drop 8 bits)

-- bits as bytes: zero bits fill the last one
unfoldable pub in_bytes : List ℕ → List ℕ
in_bytes bits = bytes_of (bytes_for (length bits)) bits
