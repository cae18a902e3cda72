-- General laws: tests, and words of two bytes after a store. They stand on the laws of sets kept as the bits of a number.
use mathlib.Core.Path.{◌≡◌, refl, sym, ◌∙◌}
use mathlib.Core.Bool.{Bool, true, false, not, ◌&&◌, ◌||◌, and-false, or-false}
use mathlib.Core.List.{List}
use Prim.Native.Nat.{ℕ, ◌+◌, ◌*◌, ◌/◌, ◌%◌, ◌^◌, ◌≤◌, ◌<◌}
use native.Mathlib.Omega.{arith}
use lib.Dec.{eqb, ltb}
use lib.ListN.{length, get_or, set, length-set}
use lib.Seq.{get_or-set_same, get_or-set_other, lt-length-set}
use lib.Bits.{bit_or}
use borrow.Author.Tests.{lt-ltb, le-ltb, eq-eqb, ne_eqb}
use Rattle.limits.specs.Bits.{bit}
use Rattle.calendar.specs.Words.{word_of, put_word}
use Rattle.limits.proofs.Bits.{bit_or_lem, bit_zero, bit_pow}
use Rattle.calendar.specs.View.{Zeroed}
use native.Mathlib.Decide.{ℕ_discrete, dec_le}

-- ---- tests

pub or_either : (C : Type 0) (a b : Bool) → a || b ≡ true → (a ≡ true → C) → (b ≡ true → C) → C
or_either C true b e f g = f refl
or_either C false b e f g = g e

-- two tests agree beside a third, if they do where that holds
pub under : (c x y : Bool) → (c ≡ true → x ≡ y) → c && x ≡ c && y
under true x y h = h refl
under false x y h = refl

pub never : (c x : Bool) → (c ≡ true → x ≡ false) → c && x ≡ false
never c x h = under c x false h ∙ and-false c

-- a pair of numbers as one number
pub eqb_both : (x y p q r s : ℕ) → (x ≡ y → (p ≡ q) × (r ≡ s)) → (p ≡ q → r ≡ s → x ≡ y) → eqb x y ≡ eqb p q && eqb r s
eqb_both x y p q r s f g = elim (ℕ_discrete p q) [
  | no d ↦ rw (ne_eqb p q d, ne_eqb x y (λ e. d (f e).0))
  | yes e ↦ rw (eq-eqb p q e) (elim (ℕ_discrete r s) [ yes h ↦ rw (eq-eqb r s h, eq-eqb x y (g e h)) | no d ↦ rw (ne_eqb r s d, ne_eqb x y (λ k. d (f k).1)) ])
]

-- one number more
pub ltb_more : (k i : ℕ) (h : Bool) → (ltb k i && h) || (eqb k i && h) ≡ ltb k (i + 1) && h
ltb_more k i h = elim (ℕ_discrete k i) [
  | yes e ↦ rw (lt-ltb k (i + 1) (omega arith), le-ltb k i (omega arith), eq-eqb k i e)
  | no d ↦ rw (ne_eqb k i d, or-false (ltb k i && h)) (elim (dec_le k i) [
    | yes l ↦ rw (lt-ltb k (i + 1) (omega arith), lt-ltb k i (omega arith))
    | no l ↦ rw (le-ltb k (i + 1) (omega arith), le-ltb k i (omega arith))
  ])
]

-- ---- two bytes stored, one after the other

module _ (s : List ℕ) (at x y : ℕ) where
  pub two_other : (k : ℕ) → (k ≡ at → ⊥) → (k ≡ at + 1 → ⊥) → get_or (set (set s at x) (at + 1) y) k 0 ≡ get_or s k 0
  two_other k h g = get_or-set_other (set s at x) (at + 1) k y 0 g ∙ get_or-set_other s at k x 0 h

  pub two_first : at + 1 < length s → get_or (set (set s at x) (at + 1) y) at 0 ≡ x
  two_first h = get_or-set_other (set s at x) (at + 1) at y 0 (λ e. omega arith) ∙ get_or-set_same s at x 0 (omega arith)

  pub two_second : at + 1 < length s → get_or (set (set s at x) (at + 1) y) (at + 1) 0 ≡ y
  two_second h = get_or-set_same (set s at x) (at + 1) y 0 (lt-length-set s at x h)

-- ---- words

-- a word whose bytes stay
pub word_same : (a r : List ℕ) (w : ℕ) → get_or r (2 * w) 0 ≡ get_or a (2 * w) 0 → get_or r (2 * w + 1) 0 ≡ get_or a (2 * w + 1) 0
    → word_of r w ≡ word_of a w
unfolding word_of
word_same a r w e d = rw (e, d)

pub put_length : (s : List ℕ) (w x : ℕ) → length (put_word s w x) ≡ length s
unfolding put_word
put_length s w x = simp length-set

-- a byte of another word
pub put_byte : (s : List ℕ) (w x k : ℕ) → (k ≡ 2 * w → ⊥) → (k ≡ 2 * w + 1 → ⊥) → get_or (put_word s w x) k 0 ≡ get_or s k 0
unfolding put_word
put_byte s w x k = two_other s (2 * w) (x % 256) (x / 256) k

pub put_here : (s : List ℕ) (w x : ℕ) → 2 * w + 1 < length s → word_of (put_word s w x) w ≡ x
unfolding word_of put_word
put_here s w x h = rw (two_first s (2 * w) (x % 256) (x / 256) h, two_second s (2 * w) (x % 256) (x / 256) h) (omega arith)

-- its two bytes
pub put_low : (s : List ℕ) (w x : ℕ) → 2 * w + 1 < length s → get_or (put_word s w x) (2 * w) 0 ≡ x % 256
unfolding put_word
put_low s w x h = two_first s (2 * w) (x % 256) (x / 256) h

pub put_high : (s : List ℕ) (w x : ℕ) → 2 * w + 1 < length s → get_or (put_word s w x) (2 * w + 1) 0 ≡ x / 256
unfolding put_word
put_high s w x h = two_second s (2 * w) (x % 256) (x / 256) h

pub put_other : (s : List ℕ) (w x v : ℕ) → (v ≡ w → ⊥) → word_of (put_word s w x) v ≡ word_of s v
put_other s w x v h =
    word_same s (put_word s w x) v (put_byte s w x (2 * v) (λ e. h (omega arith)) (λ e. omega arith))
    (put_byte s w x (2 * v + 1) (λ e. omega arith) (λ e. h (omega arith)))

-- i is put into the set at word w
pub put_member : (s : List ℕ) (w i v k : ℕ) → 2 * w + 1 < length s
    → bit k (word_of (put_word s w (bit_or (word_of s w) (2 ^ i))) v) ≡ bit k (word_of s v) || (eqb v w && eqb k i)
put_member s w i v k h = elim (ℕ_discrete v w) [
  | yes e ↦ rw (eq-eqb v w e, e, put_here s w (bit_or (word_of s w) (2 ^ i)) h, bit_or_lem k (word_of s w) (2 ^ i), bit_pow k i)
  | no d ↦ rw (ne_eqb v w d, put_other s w (bit_or (word_of s w) (2 ^ i)) v d) (sym (or-false (bit k (word_of s v))))
]

-- word w is emptied
pub put_none : (s : List ℕ) (w v k : ℕ) → 2 * w + 1 < length s → bit k (word_of (put_word s w 0) v) ≡ not (eqb v w) && bit k (word_of s v)
put_none s w v k h = elim (ℕ_discrete v w) [
  | yes e ↦ rw (eq-eqb v w e, e, put_here s w 0 h) (bit_zero k)
  | no d ↦ rw (ne_eqb v w d, put_other s w 0 v d)
]

-- ---- zeroed bytes

-- a word that is zeroed
pub zeroed_word : (a r : List ℕ) (from to v : ℕ) → from ≤ 2 * v → 2 * v + 1 < to → Zeroed a r from to → word_of r v ≡ 0
unfolding word_of
zeroed_word a r from to v h g Z = rw (Z.zero (2 * v) h (omega arith), Z.zero (2 * v + 1) (omega arith) g)
