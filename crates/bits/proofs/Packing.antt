-- Packing by a list of widths and reading field by field are each other's inverse: for any list of widths and any numbers that fit, and
-- for any bytes. It stands on the laws of bits.
use mathlib.Core.Path.{◌≡◌, ◌∙◌, refl, ap, sym}
use mathlib.Core.Bool.{Bool, true, false, and-eq-true_iff, false≢true}
use mathlib.Core.List.{List, [], ◌∷◌, ◌++◌, append_assoc}
use Prim.Native.Nat.{ℕ, zero, suc, ◌+◌, ◌*◌, ◌-◌, ◌/◌, ◌%◌, ◌^◌, ◌≤◌, ◌<◌}
use native.Mathlib.Nat as nat
use native.Mathlib.Decide.{dec_lt}
use native.Mathlib.Omega.{arith}
use lib.ListN.{length, get_or, drop, length-append, get_or-append, get_or-eq_default}
use lib.Seq.{get_or-drop, get_or-append-add, drop-append_seam, drop-length}
use lib.Dec.{ltb, lit<, lit≤}
use borrow.Author.Tests.{lt-ltb, ltb-true}
use Rattle.bits.specs.Field.{bit_of, field_of, Bytes}
use Rattle.bits.specs.Fill.{fill, bytes_for}
use Rattle.bits.specs.Layout.{total, numbers_at, fits, bits_of, packed_bits, word_of, bytes_of, in_bytes}
use Rattle.bits.proofs.Laws as laws
use Rattle.bits.proofs.Filling.{fill_units}
use Rattle.bits.proofs.Bits as bits-laws

-- each is 0 or 1
abbrev pub Small : List ℕ → Type 0
Small bits = (i : ℕ) → get_or bits i 0 < 2

small_drop : (n : ℕ) (bits : List ℕ) → Small bits → Small (drop n bits)
small_drop n bits h i = rw get_or-drop (h (n + i))

pub small_append : (a b : List ℕ) → Small a → Small b → Small (a ++ b)
small_append a b f g i = elim (dec_lt i (length a)) [
  | yes l ↦ rw (get_or-append a b 0 i l) (f i)
  | no l ↦ (let e : i ≡ length a + (i - length a) = omega arith in rw (e, get_or-append-add a b (i - length a) 0) (g (i - length a)))
]

word_suc : (w : ℕ) (bits : List ℕ) → word_of (suc w) bits ≡ word_of w bits * 2 + get_or bits w 0
unfolding word_of
word_suc w bits = refl

word_lt : (w : ℕ) (bits : List ℕ) → Small bits → word_of w bits < 2 ^ w
unfolding word_of
word_lt zero bits h = lit< tt
word_lt (suc w) bits h = rw nat.pow-suc (omega (arith, word_lt w bits h, h w))

word_none : (w : ℕ) → word_of w [] ≡ 0
unfolding word_of
word_none zero = refl
word_none (suc w) = rw (word_none w)

-- bit i of a word, j bits before its last
word_bit : (bits : List ℕ) → Small bits → (i j : ℕ) → word_of (i + suc j) bits / 2 ^ j % 2 ≡ get_or bits i 0
word_bit bits h i zero = let l = h i in let e : i + 1 ≡ suc i = omega arith in rw (e, word_suc, nat.pow-zero, nat.div-one) (omega arith)
word_bit bits h i (suc j) =
    let e : i + suc (suc j) ≡ suc (i + suc j) = omega arith in
    let l = h (i + suc j) in
    let half : (word_of (i + suc j) bits * 2 + get_or bits (i + suc j) 0) / 2 ≡ word_of (i + suc j) bits = omega arith in
    rw (e, word_suc, nat.pow-succ', ← nat.div-div-eq-div-mul, half) (word_bit bits h i j)

-- the first byte, and those behind it
bit_first : (x : ℕ) (s : List ℕ) (i : ℕ) → i < 8 → bit_of (x ∷ s) i ≡ x / 2 ^ (7 - i) % 2
unfolding bit_of
bit_first x s i h =
    let d : i / 8 ≡ 0 = omega arith in
    let m : i % 8 ≡ i = omega arith in
    rw (d, m)

bit_next : (x : ℕ) (s : List ℕ) (i : ℕ) → bit_of (x ∷ s) (8 + i) ≡ bit_of s i
bit_next x s i = sym (laws.bit_part (x ∷ s) 1 i)

bit_past : (s : List ℕ) (i : ℕ) → 8 * length s ≤ i → bit_of s i ≡ 0
unfolding bit_of
bit_past s i h = rw (get_or-eq_default s 0 {n = i / 8} (omega arith), nat.zero-div)

bytes_suc : (n : ℕ) (bits : List ℕ) → bytes_of (suc n) bits ≡ word_of 8 bits ∷ bytes_of n (drop 8 bits)
unfolding bytes_of
bytes_suc n bits = refl

bytes_bit : (n : ℕ) (bits : List ℕ) → Small bits → (i : ℕ) → i < 8 * n → bit_of (bytes_of n bits) i ≡ get_or bits i 0
bytes_bit zero bits h i l = absurd (omega arith)
bytes_bit (suc n) bits h i l = elim (dec_lt i 8) [
  | yes k ↦ (
      let e : 8 ≡ i + suc (7 - i) = omega arith in
      rw (bytes_suc, bit_first _ _ i k) (ap (λ (w : ℕ). word_of w bits / 2 ^ (7 - i) % 2) e ∙ word_bit bits h i (7 - i))
      )
  | no k ↦ (
      let e : i ≡ 8 + (i - 8) = omega arith in
      rw (e, bytes_suc, bit_next, bytes_bit n (drop 8 bits) (small_drop 8 bits h) (i - 8) (omega arith)) (get_or-drop 8 bits (i - 8) 0)
      )
]

pub bytes_length : (n : ℕ) (bits : List ℕ) → length (bytes_of n bits) ≡ n
unfolding bytes_of
bytes_length zero bits = refl
bytes_length (suc n) bits = rw (bytes_length n (drop 8 bits))

pub bytes_small : (n : ℕ) (bits : List ℕ) → Small bits → Bytes (bytes_of n bits)
unfolding bytes_of
bytes_small zero bits h i = lit< tt
bytes_small (suc n) bits h zero = word_lt 8 bits h
bytes_small (suc n) bits h (suc i) = bytes_small n (drop 8 bits) (small_drop 8 bits h) i

module _ (bits : List ℕ) (small : Small bits) where
  pub in_length : length (in_bytes bits) ≡ bytes_for (length bits)
  unfolding in_bytes
  in_length = bytes_length (bytes_for (length bits)) bits

  pub in_small : Bytes (in_bytes bits)
  unfolding in_bytes
  in_small = bytes_small (bytes_for (length bits)) bits small

  -- the bytes have these bits, and zeros behind them
  pub in_bit : (i : ℕ) → bit_of (in_bytes bits) i ≡ get_or bits i 0
  unfolding in_bytes
  in_bit i =
      let units = fill_units 8 (length bits) (lit≤ tt) in
      elim (dec_lt i (8 * bytes_for (length bits))) [
        | yes l ↦ bytes_bit (bytes_for (length bits)) bits small i l
        | no l ↦ bit_past (bytes_of (bytes_for (length bits)) bits) i (rw bytes_length (omega arith)) ∙ sym (get_or-eq_default bits 0 {n = i} (omega arith))
      ]

  pub in_field : (at w : ℕ) → field_of (in_bytes bits) at w ≡ word_of w (drop at bits)
  in_field at w = bits-laws.field_bits (in_bytes bits) at w (drop at bits) (λ i l. in_bit (at + i) ∙ sym (get_or-drop at bits i 0))

  -- behind them stand zero bits
  pub in_final : (w : ℕ) → field_of (in_bytes bits) (length bits) w ≡ 0
  in_final w = in_field (length bits) w ∙ rw drop-length (word_none w)

packed_cons : (v x : ℕ) (vs xs : List ℕ) → packed_bits (v ∷ vs) (x ∷ xs) ≡ bits_of v x ++ packed_bits vs xs
unfolding packed_bits
packed_cons v x vs xs = refl

pub packed_small : (vs xs : List ℕ) → Small (packed_bits vs xs)
unfolding packed_bits
packed_small [] xs i = lit< tt
packed_small (v ∷ vs) [] i = lit< tt
packed_small (v ∷ vs) (x ∷ xs) i = small_append (bits_of v x) (packed_bits vs xs) (bits-laws.bits_small v x) (packed_small vs xs) i

pub packed_length : (vs xs : List ℕ) → length xs ≡ length vs → length (packed_bits vs xs) ≡ total vs
unfolding packed_bits
packed_length [] xs e = refl
packed_length (v ∷ vs) [] e = absurd (omega arith)
packed_length (v ∷ vs) (x ∷ xs) e = rw (length-append, bits-laws.length_bits_of, packed_length vs xs (omega arith))

fits_cons : (v x : ℕ) (vs xs : List ℕ) → fits (v ∷ vs) (x ∷ xs) ≡ true → (x < 2 ^ v) × (fits vs xs ≡ true)
unfolding fits
fits_cons v x vs xs e = let b = (and-eq-true_iff (ltb x (2 ^ v)) (fits vs xs)).0 e in (ltb-true x (2 ^ v) b.0, b.1)

-- there is a number for each field
pub fits_length : (vs xs : List ℕ) → fits vs xs ≡ true → length xs ≡ length vs
unfolding fits
fits_length [] [] e = refl
fits_length [] (x ∷ xs) e = absurd (false≢true e)
fits_length (v ∷ vs) [] e = absurd (false≢true e)
fits_length (v ∷ vs) (x ∷ xs) e = let b = (and-eq-true_iff (ltb x (2 ^ v)) (fits vs xs)).0 e in rw (fits_length vs xs b.1)

-- each number is below 2 to its width
pub fits_at : (vs xs : List ℕ) → fits vs xs ≡ true → (i : ℕ) → i < length vs → get_or xs i 0 < 2 ^ get_or vs i 0
fits_at [] xs e i l = absurd (omega arith)
fits_at (v ∷ vs) [] e i l = absurd (omega (arith, fits_length (v ∷ vs) [] e))
fits_at (v ∷ vs) (x ∷ xs) e zero l = (fits_cons v x vs xs e).0
fits_at (v ∷ vs) (x ∷ xs) e (suc i) l = fits_at vs xs (fits_cons v x vs xs e).1 i (omega arith)

-- other than one for each field do not fit
pub fits_not : (vs xs : List ℕ) → (length xs ≡ length vs → ⊥) → fits vs xs ≡ false
fits_not vs xs n = go (fits vs xs) refl
  where
    go : (b : Bool) → fits vs xs ≡ b → fits vs xs ≡ false
    go true e = absurd (n (fits_length vs xs e))
    go false e = e

-- Numbers that fit, packed and read field by field, are themselves, whatever stands before and behind them.
pub numbers_packed : (vs xs before behind : List ℕ) → fits vs xs ≡ true → Small before → Small behind
    → numbers_at vs (in_bytes (before ++ (packed_bits vs xs ++ behind))) (length before) ≡ xs
numbers_packed [] [] before behind e f g = refl
numbers_packed [] (x ∷ xs) before behind e f g = absurd (omega (arith, fits_length [] (x ∷ xs) e))
numbers_packed (v ∷ vs) [] before behind e f g = absurd (omega (arith, fits_length (v ∷ vs) [] e))
numbers_packed (v ∷ vs) (x ∷ xs) before behind e f g =
    let b = fits_cons v x vs xs e in
    let mine : List ℕ = bits_of v x in
    let rest : List ℕ = packed_bits vs xs ++ behind in
    let all : List ℕ = before ++ (mine ++ rest) in
    let small : Small all = small_append before (mine ++ rest) f (small_append mine rest (bits-laws.bits_small v x) (small_append (packed_bits vs xs) behind (packed_small vs xs) g)) in
    let head : field_of (in_bytes all) (length before) v ≡ x =
    in_field all small (length before) v ∙ rw (drop-append_seam before (mine ++ rest), bits-laws.word_bits) (nat.mod-eq_of_lt b.0) in
    let tail = numbers_packed vs xs (before ++ mine) behind b.1 (small_append before mine f (bits-laws.bits_small v x)) g in
    let at : length (before ++ mine) ≡ length before + v = rw (length-append, bits-laws.length_bits_of) in
    let same : (before ++ mine) ++ rest ≡ all = append_assoc before mine rest in
    let tail' = rw (at, same) at tail in
    rw (packed_cons, append_assoc mine (packed_bits vs xs) behind, head, tail')

-- fields one behind the other are one field
pub bits_join : (s : List ℕ) (at a b : ℕ) → bits_of a (field_of s at a) ++ bits_of b (field_of s (at + a) b) ≡ bits_of (a + b) (field_of s at (a + b))
bits_join s at a b = rw laws.field_split (sym (bits-laws.bits_split a b (field_of s at a) (field_of s (at + a) b) (laws.field_lt s (at + a) b)))

-- What is read field by field and packed again are the bits that were read.
pub packed_numbers : (vs s : List ℕ) (at : ℕ) → packed_bits vs (numbers_at vs s at) ≡ bits_of (total vs) (field_of s at (total vs))
unfolding packed_bits bits_of
packed_numbers [] s at = refl
packed_numbers (v ∷ vs) s at = rw (packed_numbers vs s (at + v)) (bits_join s at v (total vs))

-- and they fit
pub fits_numbers : (vs s : List ℕ) (at : ℕ) → fits vs (numbers_at vs s at) ≡ true
unfolding fits
fits_numbers [] s at = refl
fits_numbers (v ∷ vs) s at = rw (lt-ltb _ _ (laws.field_lt s at v), fits_numbers vs s (at + v))

zero_bits : (s : List ℕ) (at w i : ℕ) → field_of s at w ≡ 0 → i < w → bit_of s (at + i) ≡ 0
zero_bits s at zero i e l = absurd (omega arith)
zero_bits s at (suc w) i e l =
    let f : field_of s at w * 2 + bit_of s (at + w) ≡ 0 = sym (laws.field_suc s at w) ∙ e in
    elim (dec_lt i w) [
      | yes k ↦ zero_bits s at w i (omega arith) k
      | no k ↦ (let j : i ≡ w = omega arith in rw j (omega arith))
    ]

-- so many bits of a byte string that ends with them, and with zero bits to the byte's end, are the byte string
pub in_back : (s : List ℕ) (n : ℕ) → Bytes s → length s ≡ bytes_for n → field_of s n (fill 8 n) ≡ 0 → in_bytes (bits_of n (field_of s 0 n)) ≡ s
in_back s n bytes size final =
    let bits : List ℕ = bits_of n (field_of s 0 n) in
    let small : Small bits = bits-laws.bits_small n (field_of s 0 n) in
    let units = fill_units 8 n (lit≤ tt) in
    let len : length (in_bytes bits) ≡ length s = in_length bits small ∙ rw (bits-laws.length_bits_of) (sym size) in
    bits-laws.same_bits (in_bytes bits) s (in_small bits small) bytes len (λ i l.
    in_bit bits small i
    ∙ elim (dec_lt i n) [
      | yes k ↦ bits-laws.bits_field s 0 n i k ∙ ap (λ (j : ℕ). bit_of s j) (nat.zero-add i)
      | no k ↦ (
          let j : n + (i - n) ≡ i = omega arith in
          let z : bit_of s (n + (i - n)) ≡ 0 = zero_bits s n (fill 8 n) (i - n) final (omega (arith, len)) in
          get_or-eq_default bits 0 {n = i} (rw bits-laws.length_bits_of (omega arith)) ∙ sym (rw j at z)
          )
    ])
