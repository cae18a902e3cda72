-- Numbers and fields as lists of bits, each law for all widths together. Assumes nothing.
use mathlib.Core.Path.{◌≡◌, ◌∙◌, refl, sym}
use mathlib.Core.List.{List, [], ◌∷◌, ◌++◌, append_assoc, append-nil}
use Prim.Native.Nat.{ℕ, zero, suc, ◌+◌, ◌*◌, ◌/◌, ◌%◌, ◌^◌, ◌<◌}
use native.Mathlib.Nat.{add-zero, add-suc, pow-zero, pow-succ', mod-lt, mod-one, div-one, div-div-eq-div-mul}
use native.Mathlib.Numerals.{add-one}
use native.Mathlib.Decide.{dec_lt}
use native.Mathlib.Omega.{arith}
use lib.ListN.{length, get_or, length-append, get_or-append, get_or-eq_default}
use lib.Seq.{get_or-append-add, get_or_at, ext_get_or}
use lib.Dec.{lit<}
use lib.Pow.{high, low, field, mod-mod-pow, mod-pow-add}
use Rattle.bits.specs.Field.{bit_of, field_of, Bytes}
use Rattle.bits.specs.Layout.{bits_of, word_of}
use Rattle.bits.proofs.Laws.{bit_lt, field_zero, field_suc, field_byte}

pub bits_zero : (x : ℕ) → bits_of 0 x ≡ []
unfolding bits_of
bits_zero x = refl

bits_suc : (w x : ℕ) → bits_of (suc w) x ≡ bits_of w (x / 2) ++ (x % 2 ∷ [])
unfolding bits_of
bits_suc w x = refl

word_zero : (bits : List ℕ) → word_of 0 bits ≡ 0
unfolding word_of
word_zero bits = refl

word_suc : (w : ℕ) (bits : List ℕ) → word_of (suc w) bits ≡ word_of w bits * 2 + get_or bits w 0
unfolding word_of
word_suc w bits = refl

pub length_bits_of : (w x : ℕ) → length (bits_of w x) ≡ w
length_bits_of zero x = rw bits_zero
length_bits_of (suc w) x = rw (bits_suc, length-append, length_bits_of w (x / 2)) (omega arith)

-- a bit of the half is that of the number; the last bit is the remainder
bits_before : (w x i : ℕ) → i < w → get_or (bits_of (suc w) x) i 0 ≡ get_or (bits_of w (x / 2)) i 0
bits_before w x i h = rw (bits_suc, get_or-append (bits_of w (x / 2)) (x % 2 ∷ []) 0 i (rw length_bits_of h))

bits_last : (w x : ℕ) → get_or (bits_of (suc w) x) w 0 ≡ x % 2
bits_last w x = rw bits_suc (get_or_at (bits_of w (x / 2)) (x % 2) [] 0 w (length_bits_of w (x / 2)))

-- every bit is 0 or 1
pub bits_small : (w x i : ℕ) → get_or (bits_of w x) i 0 < 2
bits_small zero x i = rw bits_zero (lit< tt)
bits_small (suc w) x i = elim (dec_lt i w) [
  | yes h ↦ rw (bits_before w x i h) (bits_small w (x / 2) i)
  | no h ↦ elim (dec_lt w i) [
    | yes l ↦ rw (get_or-eq_default (bits_of (suc w) x) 0 {n = i} (rw length_bits_of l)) (lit< tt)
    | no l ↦ let e : i ≡ w = omega arith in rw (e, bits_last w x) (mod-lt x (lit< tt))
  ]
]

-- those of 0 are 0
pub bits_none : (w i : ℕ) → ◌≡◌ {A = ℕ} (get_or (bits_of w 0) i 0) 0
bits_none zero i = rw bits_zero
bits_none (suc w) i = elim (dec_lt i w) [
  | yes h ↦ rw (bits_before w 0 i h) (bits_none w i)
  | no h ↦ elim (dec_lt w i) [
    | yes l ↦ get_or-eq_default (bits_of (suc w) 0) 0 {n = i} (rw length_bits_of l)
    | no l ↦ let e : i ≡ w = omega arith in rw (e, bits_last w 0)
  ]
]

-- the bits above the last b, and those
pub bits_cut : (a b x : ℕ) → bits_of (a + b) x ≡ bits_of a (x / 2 ^ b) ++ bits_of b x
bits_cut a zero x = rw (add-zero, pow-zero, div-one, bits_zero x, append-nil)
bits_cut a (suc b) x = rw (add-suc, bits_suc (a + b) x, bits_suc b x, bits_cut a b (x / 2), div-div-eq-div-mul, pow-succ', append_assoc)

-- the bit with r bits behind it
pub bits_at : (i r x : ℕ) → get_or (bits_of (suc i + r) x) i 0 ≡ x / 2 ^ r % 2
bits_at i r x =
    rw (bits_cut (suc i) r x, get_or-append (bits_of (suc i) (x / 2 ^ r)) (bits_of r x) 0 i (rw length_bits_of (omega arith)))
    (bits_last i (x / 2 ^ r))

-- a bit of those that have b bits behind them
pub bits_inner : (a w b x i : ℕ) → i < w → get_or (bits_of w (x / 2 ^ b)) i 0 ≡ get_or (bits_of (a + w + b) x) (a + i) 0
bits_inner a w b x i h =
    let y = x / 2 ^ b in
    let e : a + i ≡ length (bits_of a (y / 2 ^ w)) + i = rw length_bits_of in
    sym (rw (bits_cut (a + w) b x, bits_cut a w y, append_assoc, e, get_or-append-add) (get_or-append (bits_of w y) (bits_of b x) 0 i (rw length_bits_of h)))

-- only the lowest bits count
pub bits_low : (w x : ℕ) → bits_of w (x % 2 ^ w) ≡ bits_of w x
bits_low zero x = rw (bits_zero (x % 2 ^ 0), bits_zero x)
bits_low (suc w) x = rw (bits_suc w (x % 2 ^ suc w), bits_suc w x, ← add-one w, field x w 1, mod-mod-pow x w 1, bits_low w (x / 2))

pub bits_split : (a b x y : ℕ) → y < 2 ^ b → bits_of (a + b) (x * 2 ^ b + y) ≡ bits_of a x ++ bits_of b y
bits_split a b x y h = rw (bits_cut a b (x * 2 ^ b + y), high x b h, ← bits_low b (x * 2 ^ b + y), low x b h)

-- the bits of a field
pub bits_field : (s : List ℕ) (at w i : ℕ) → i < w → get_or (bits_of w (field_of s at w)) i 0 ≡ bit_of s (at + i)
bits_field s at zero i h = absurd (omega arith)
bits_field s at (suc w) i h =
    let l = bit_lt s (at + w) in
    let d : (field_of s at w * 2 + bit_of s (at + w)) / 2 ≡ field_of s at w = omega arith in
    let m : (field_of s at w * 2 + bit_of s (at + w)) % 2 ≡ bit_of s (at + w) = omega arith in
    elim (dec_lt i w) [
      | yes g ↦ rw (field_suc, bits_before w _ i g, d) (bits_field s at w i g)
      | no g ↦ let e : i ≡ w = omega arith in rw (e, field_suc, bits_last, m)
    ]

-- the bits of a number as a number
pub word_bits : (w x : ℕ) (rest : List ℕ) → word_of w (bits_of w x ++ rest) ≡ x % 2 ^ w
word_bits zero x rest = rw (word_zero, pow-zero, mod-one)
word_bits (suc w) x rest =
    rw (word_suc, bits_suc, append_assoc, word_bits w (x / 2), get_or_at (bits_of w (x / 2)) (x % 2) rest 0 w (length_bits_of w (x / 2)), ← add-one w)
    (sym (mod-pow-add x w 1))

-- a field whose bits are these is the number that they make
pub field_bits : (s : List ℕ) (at w : ℕ) (bits : List ℕ) → ((i : ℕ) → i < w → bit_of s (at + i) ≡ get_or bits i 0) → field_of s at w ≡ word_of w bits
field_bits s at zero bits h = rw (field_zero, word_zero)
field_bits s at (suc w) bits h = rw (field_suc, word_suc, field_bits s at w bits (λ i l. h i (omega arith)), h w (omega arith))

field_same : (a b : List ℕ) (at w : ℕ) → ((i : ℕ) → i < w → bit_of a (at + i) ≡ bit_of b (at + i)) → field_of a at w ≡ field_of b at w
field_same a b at zero h = rw (field_zero, field_zero)
field_same a b at (suc w) h = rw (field_suc a, field_suc b, field_same a b at w (λ i l. h i (omega arith)), h w (omega arith))

-- bytes are told apart by their bits
pub same_bits : (a b : List ℕ) → Bytes a → Bytes b → length a ≡ length b
    → ((i : ℕ) → i < 8 * length a → bit_of a i ≡ bit_of b i)
    → a ≡ b
same_bits a b small-a small_b size h =
    ext_get_or 0 a b size (λ k l.
    sym (field_byte a k (small-a k))
    ∙ field_same a b (8 * k) 8 (λ i g. h (8 * k + i) (omega arith))
    ∙ field_byte b k (small_b k))
