-- What the writer leaves, write after write. Assumes nothing.
use mathlib.Core.Path.{◌≡◌, ◌∙◌, refl, sym}
use mathlib.Core.Logic.{inl, inr}
use mathlib.Core.List.{List, [], ◌++◌, append_assoc}
use Prim.Native.Nat.{ℕ, suc, ◌+◌, ◌*◌, ◌-◌, ◌/◌, ◌%◌, ◌^◌, ◌≤◌, ◌<◌}
use native.Mathlib.Nat.{add_assoc, mod-lt}
use native.Mathlib.Decide.{dec_lt}
use native.Mathlib.Omega.{arith}
use lib.ListN.{length, get_or, set, length-append, length-set, get_or-append}
use lib.Arith.{digits_lt}
use lib.Pow.{pow_pos, pow-add}
use lib.Seq.{get_or-append-add, get_or-set_same, get_or-set_other}
use Rattle.bits.specs.Field.{bit_of, field_of}
use Rattle.bits.specs.Layout.{bits_of}
use Rattle.bits.specs.Writing.{Wrote}
use Rattle.bits.proofs.Laws.{bit_in, field_lt, field_above, field_last}
use Rattle.bits.proofs.Bits.{length_bits_of, bits_at, bits_cut, bits_low, bits_split, bits_field}

pub wrote_nothing : (a : List ℕ) (at : ℕ) → Wrote a a at []
wrote_nothing a at = record { size = refl; inside = λ i h. absurd (omega arith); other = λ i o. refl }

-- two writes, the second behind the first, are one
pub wrote_then : {a b c : List ℕ} {at : ℕ} {x y : List ℕ} → Wrote a b at x → Wrote b c (at + length x) y → Wrote a c at (x ++ y)
wrote_then {a} {b} {c} {at} {x} {y} f g = record {
  size = g.size ∙ f.size;
  inside = λ i h. elim (dec_lt i (length x)) [
    | yes l ↦ g.other (at + i) (inl (omega arith)) ∙ f.inside i l ∙ sym (get_or-append x y 0 i l)
    | no l ↦
        let j = i - length x in
        let e : i ≡ length x + j = omega arith in
        rw (e, ← add_assoc at (length x) j, get_or-append-add x y j 0) (g.inside j (omega (arith, length-append x y)))
  ];
  other = λ i o. elim o [
    | inl h ↦ g.other i (inl (omega arith)) ∙ f.other i (inl h)
    | inr h ↦ g.other i (inr (omega (arith, length-append x y))) ∙ f.other i (inr (omega (arith, length-append x y)))
  ];
}

-- a write that leaves the bits around a part as they were is a write of the part
pub wrote_inside : {a b : List ℕ} {p : ℕ} (x y z : List ℕ) → Wrote a b p (x ++ (y ++ z))
    → ((i : ℕ) → i < length x → get_or x i 0 ≡ bit_of a (p + i))
    → ((i : ℕ) → i < length z → get_or z i 0 ≡ bit_of a (p + length x + length y + i))
    → Wrote a b (p + length x) y
wrote_inside {a} {b} {p} x y z f hx hz =
    let n : length (x ++ (y ++ z)) ≡ length x + (length y + length z) = rw (length-append, length-append) in
    let second : (j : ℕ) → j < length y + length z → bit_of b (p + length x + j) ≡ get_or (y ++ z) j 0 =
    λ j h. rw (add_assoc p (length x) j, f.inside (length x + j) (omega arith)) (get_or-append-add x (y ++ z) j 0) in
    let before : (i : ℕ) → i < p + length x → bit_of b i ≡ bit_of a i = λ i h. elim (dec_lt i p) [
      | yes l ↦ f.other i (inl l)
      | no l ↦
          let j = i - p in
          let e : i ≡ p + j = omega arith in
          rw e (f.inside j (omega arith) ∙ get_or-append x (y ++ z) 0 j (omega arith) ∙ hx j (omega arith))
    ] in
    let behind : (i : ℕ) → p + length x + length y ≤ i → bit_of b i ≡ bit_of a i = λ i h. elim (dec_lt i (p + length x + length y + length z)) [
      | yes l ↦
          let j = i - (p + length x + length y) in
          let e : i ≡ p + length x + length y + j = omega arith in
          rw e (rw (← add_assoc (p + length x) (length y) j) at (second (length y + j) (omega arith)) ∙ get_or-append-add y z j 0 ∙ hz j (omega arith))
      | no l ↦ f.other i (inr (omega arith))
    ] in
    record {
      size = f.size;
      inside = λ i h. second i (omega arith) ∙ get_or-append y z 0 i h;
      other = λ i o. elim o [ inl h ↦ before i h | inr h ↦ behind i h ];
    }

-- a byte that is stored
pub wrote_byte : (s : List ℕ) (k v : ℕ) → k < length s → Wrote s (set s k v) (8 * k) (bits_of 8 v)
unfolding bit_of
wrote_byte s k v h = record {
  size = length-set s k v;
  inside = λ i l.
      let e : 8 ≡ suc i + (7 - i) = omega (arith, length_bits_of 8 v) in
      bit_in (set s k v) k i (omega (arith, length_bits_of 8 v)) ∙ rw (get_or-set_same s k v 0 h, e) (sym (bits_at i (7 - i) v));
  other = λ i o. rw (get_or-set_other s k (i / 8) v 0 (λ e. elim o [ inl l ↦ omega arith | inr l ↦ omega (arith, length_bits_of 8 v) ]));
}

-- one byte more behind the bytes that have the bits above it
pub wrote_more : {a s : List ℕ} (b k x : ℕ) → b + k < length s → Wrote a s (8 * b) (bits_of (8 * k) (x / 256))
    → Wrote a (set s (b + k) (x % 256)) (8 * b) (bits_of (8 * (k + 1)) x)
wrote_more {a} {s} b k x h f =
    let w : 8 * (k + 1) ≡ 8 * k + 8 = omega arith in
    let p : 8 * (b + k) ≡ 8 * b + length (bits_of (8 * k) (x / 256)) = omega (arith, length_bits_of (8 * k) (x / 256)) in
    rw (w, bits_cut (8 * k) 8 x, ← bits_low 8 x) (wrote_then f (rw p at (wrote_byte s (b + k) (x % 256) h)))

-- bits behind a number make it that much wider
pub behind_lt : {x : ℕ} (j w y : ℕ) → x < 2 ^ j → x * 2 ^ w + y % 2 ^ w < 2 ^ (j + w)
behind_lt j w y h = rw pow-add (digits_lt h (mod-lt y (pow_pos w)))

-- a field that is put between its neighbours, which are taken out of the whole and put back
pub wrote_field : {s t : List ℕ} (p m x w y value : ℕ) → m ≡ x + w + y
    → Wrote s t p (bits_of m ((field_of s p m / 2 ^ y / 2 ^ w * 2 ^ w + value % 2 ^ w) * 2 ^ y + field_of s p m % 2 ^ y))
    → Wrote s t (p + x) (bits_of w value)
wrote_field {s} {t} p m x w y value e g =
    let f = rw e at g in
    let above = field_of s p x in
    let below = field_of s (p + (x + w)) y in
    let bits : bits_of (x + w + y) ((above * 2 ^ w + value % 2 ^ w) * 2 ^ y + below) ≡ bits_of x above ++ (bits_of w value ++ bits_of y below) =
    rw (bits_split (x + w) y (above * 2 ^ w + value % 2 ^ w) below (field_lt s (p + (x + w)) y), bits_split x w above (value % 2 ^ w) (mod-lt value (pow_pos w)), bits_low, append_assoc) in
    rw (length_bits_of x above) at
    (wrote_inside (bits_of x above) (bits_of w value) (bits_of y below)
    (rw (field_above s p (x + w + y) x w y refl, ← field_last s p (x + w) y, bits) at f)
    (λ i h. bits_field s p x i (rw length_bits_of at h))
    (λ i h. rw (length_bits_of, length_bits_of, add_assoc p x w) (bits_field s (p + (x + w)) y i (rw length_bits_of at h))))
