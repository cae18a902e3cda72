-- Numbers of four bits: whether they fit, one by one, and where their bits are. It stands on the laws of bits and of records.
use mathlib.Core.Path.{◌≡◌, ◌∙◌, sym}
use mathlib.Core.Bool.{◌&&◌, and-true}
use mathlib.Core.List.{List, [], ◌∷◌, ◌++◌}
use Prim.Native.Nat.{ℕ, zero, suc, ◌+◌, ◌*◌, ◌-◌, ◌/◌, ◌%◌, ◌^◌, ◌≤◌, ◌<◌}
use native.Mathlib.Nat.{mod-lt}
use native.Mathlib.Omega.{arith}
use lib.Dec.{ltb, lit<}
use lib.ListN.{length, get_or, take, get_or-append}
use lib.Seq.{get_or-append-add, take-suc, length-take-le}
use Rattle.bits.specs.Layout.{records, fits, bits_of, packed_bits}
use Rattle.bits.proofs.Bits.{length_bits_of, bits_low, bits_split, bits_inner}
use Rattle.bits.proofs.Packing.{packed_length}
use Rattle.bits.proofs.Records.{records_last, length_records, total_records, fits_append}
use Rattle.nibbles.proofs.Parts.{Within, within_two}
use Rattle.nibbles.specs.Nibbles.{width, limit, pair_width, pair_limit, fields_of, all_bits, pair_of}

fits_one : (x : ℕ) → fits (width ∷ []) (x ∷ []) ≡ ltb x limit
unfolding fits
fits_one x = and-true _

-- one number more
pub fits_more : (xs : List ℕ) (i : ℕ) → i < length xs
    → fits (records (suc i) (width ∷ [])) (take (suc i) xs) ≡ fits (records i (width ∷ [])) (take i xs) && ltb (get_or xs i 0) limit
fits_more xs i h =
    let n : length (take i xs) ≡ length (records i (width ∷ [])) = rw (length-take-le i xs (omega arith), length_records (width ∷ []) i) (omega arith) in
    rw (records_last (width ∷ []) i, take-suc xs i 0 h) (fits_append (width ∷ []) (get_or xs i 0 ∷ []) (records i (width ∷ [])) (take i xs) n ∙ rw fits_one)

-- four bits for each
pub bits_length : (xs : List ℕ) → length (all_bits xs) ≡ width * length xs
bits_length xs =
    let n : length xs ≡ length (fields_of xs) = rw (length_records (width ∷ []) (length xs)) (omega arith) in
    packed_length (fields_of xs) xs n ∙ total_records (width ∷ []) (length xs)

-- the bits of number j
pub number_at : (xs : List ℕ) (j : ℕ) → j < length xs → Within (all_bits xs) (width * j) width (bits_of width (get_or xs j 0))
unfolding records packed_bits
number_at [] j h i l = absurd (omega arith)
number_at (x ∷ xs) zero h i l =
    let e : width * 0 + i ≡ i = omega arith in
    rw e (sym (get_or-append (bits_of width x) (all_bits xs) 0 i (rw length_bits_of l)))
number_at (x ∷ xs) (suc j) h i l =
    let e : width * suc j + i ≡ length (bits_of width x) + (width * j + i) = rw length_bits_of (omega arith) in
    rw (e, get_or-append-add (bits_of width x) (all_bits xs)) (number_at xs j (omega arith) i l)

-- the bits of pair k
pub pair_at_lem : (xs : List ℕ) (k : ℕ) → 2 * k + 1 < length xs → Within (all_bits xs) (pair_width * k) pair_width (bits_of pair_width (pair_of xs k))
pair_at_lem xs k h =
    let x = get_or xs (2 * k) 0 in
    let y = get_or xs (2 * k + 1) 0 in
    let two : bits_of pair_width (pair_of xs k) ≡ bits_of width x ++ bits_of width y =
    bits_split width width (x % limit) (y % limit) (mod-lt y (lit< tt)) ∙ rw (bits_low width x, bits_low width y) in
    let first : pair_width * k ≡ width * (2 * k) = omega arith in
    let second : width * (2 * k) + width ≡ width * (2 * k + 1) = omega arith in
    rw (two, first) (within_two (all_bits xs) (bits_of width x) (bits_of width y) (width * (2 * k)) width width (length_bits_of width x) (number_at xs (2 * k) (omega arith)) (rw second (number_at xs (2 * k + 1) h)))

pair_lt : (xs : List ℕ) (k : ℕ) → pair_of xs k < pair_limit
pair_lt xs k = omega arith

-- the byte that begins `off` bits before pair k
pub between_at : (xs : List ℕ) (k off : ℕ) → 1 ≤ k → 2 * k + 1 < length xs → off < 8
    → Within (all_bits xs) (8 * k - off) 8 (bits_of 8 ((pair_of xs (k - 1) * pair_limit + pair_of xs k) / 2 ^ off % pair_limit))
between_at xs k off g h o i l =
    let x = pair_of xs (k - 1) in
    let y = pair_of xs k in
    let all = x * pair_limit + y in
    let second : 8 * (k - 1) + 8 ≡ 8 * k = omega arith in
    let both : Within (all_bits xs) (8 * (k - 1)) 16 (bits_of 16 all) =
    rw (bits_split 8 8 x y (pair_lt xs k)) (within_two (all_bits xs) (bits_of 8 x) (bits_of 8 y) (8 * (k - 1)) 8 8 (length_bits_of 8 x) (pair_at_lem xs (k - 1) (omega arith)) (rw second (pair_at_lem xs k h))) in
    let wide : 8 - off + 8 + off ≡ 16 = omega arith in
    let place : 8 * k - off + i ≡ 8 * (k - 1) + (8 - off + i) = omega arith in
    rw (bits_low 8 (all / 2 ^ off), place) (rw wide at (bits_inner (8 - off) 8 off all i l) ∙ both (8 - off + i) (omega arith))
