-- Bits written from the first bit on: over bytes that were all zero, and as many as fill whole bytes. It stands on the laws of packing.
use mathlib.Core.Path.{◌≡◌, ◌∙◌, ap, sym}
use mathlib.Core.Logic.{inr}
use mathlib.Core.List.{List, ◌++◌}
use Prim.Native.Nat.{ℕ, ◌+◌, ◌*◌, ◌-◌, ◌/◌, ◌≤◌, ◌<◌}
use native.Mathlib.Nat.{zero-add, zero-div}
use native.Mathlib.Decide.{dec_lt}
use native.Mathlib.Omega.{arith}
use lib.Dec.{lit<, lit≤}
use lib.ListN.{length, get_or, take, drop, replicate, length-append, length-replicate, length-drop, get_or-replicate, take-append-drop, get_or-append, get_or-eq_default}
use lib.Seq.{get_or-append-add, get_or-take, get_or-drop, length-take-le}
use Rattle.bits.specs.Field.{bit_of, Bytes}
use Rattle.bits.specs.Fill.{fill, bytes_for}
use Rattle.bits.specs.Layout.{bits_of, in_bytes}
use Rattle.bits.specs.Writing.{Wrote}
use Rattle.bits.proofs.Filling.{fill_units}
use Rattle.bits.proofs.Laws.{bit_part}
use Rattle.bits.proofs.Bits.{length_bits_of, bits_small, bits_none, same_bits}
use Rattle.bits.proofs.Packing.{Small, small_append, in_length, in_small, in_bit}
use Rattle.bits.proofs.Written.{wrote_then}

zero_at : (n i : ℕ) → ◌≡◌ {A = ℕ} (get_or (replicate n 0) i 0) 0
zero_at n i = elim (dec_lt i n) [
  | yes l ↦ get_or-replicate n i 0 0 l
  | no l ↦ get_or-eq_default (replicate n 0) 0 {n = i} (rw length-replicate (omega arith))
]

bit_zero : (n i : ℕ) → bit_of (replicate n 0) i ≡ 0
unfolding bit_of
bit_zero n i = rw (zero_at n (i / 8), zero-div)

-- the first n bytes
module _ (t : List ℕ) (n : ℕ) where
  bit-taken : (i : ℕ) → i < 8 * n → bit_of (take n t) i ≡ bit_of t i
  unfolding bit_of
  bit-taken i l = rw (get_or-take n t (i / 8) 0 (omega arith))

  bytes-taken : n ≤ length t → Bytes t → Bytes (take n t)
  bytes-taken h b i = elim (dec_lt i n) [
    | yes l ↦ rw (get_or-take n t i 0 l) (b i)
    | no l ↦ rw (get_or-eq_default (take n t) 0 {n = i} (rw (length-take-le n t h) (omega arith))) (lit< tt)
  ]

-- the first bytes then are these bits, with zero bits to the last one's end
pub fresh : (n : ℕ) (t bits : List ℕ) → Wrote (replicate n 0) t 0 bits → Small bits → Bytes t → bytes_for (length bits) ≤ n → take (bytes_for (length bits)) t ≡ in_bytes bits
fresh n t bits W small bytes h =
    let m = bytes_for (length bits) in
    let size : length t ≡ n = W.size ∙ length-replicate n 0 in
    let long : length (take m t) ≡ m = length-take-le m t (omega arith) in
    let units = fill_units 8 (length bits) (lit≤ tt) in
    same_bits (take m t) (in_bytes bits) (bytes-taken t m (omega arith) bytes) (in_small bits small) (long ∙ sym (in_length bits small)) (λ i l.
    bit-taken t m i (omega arith)
    ∙ elim (dec_lt i (length bits)) [
      | yes k ↦ ap (λ (j : ℕ). bit_of t j) (sym (zero-add i)) ∙ W.inside i k
      | no k ↦ W.other i (inr (omega arith)) ∙ bit_zero n i ∙ sym (get_or-eq_default bits 0 {n = i} (omega arith))
    ]
    ∙ sym (in_bit bits small i))

-- bits of whole bytes, written over any bytes: those are the first bytes, and the rest is as it was
module _ (a b bits : List ℕ) (n : ℕ) (W : Wrote a b 0 bits) (small : Small bits) (bytes-a : Bytes a) (bytes-b : Bytes b) (whole : length bits ≡ 8 * n) (room : n ≤ length a) where
  front : take n b ≡ in_bytes bits
  front =
      let units = fill_units 8 (length bits) (lit≤ tt) in
      let size : bytes_for (length bits) ≡ n = rw whole (omega arith) in
      let long : length (take n b) ≡ n = length-take-le n b (omega (arith, W.size)) in
      same_bits (take n b) (in_bytes bits) (bytes-taken b n (omega (arith, W.size)) bytes-b) (in_small bits small) (long ∙ sym size ∙ sym (in_length bits small)) (λ i l.
      bit-taken b n i (omega arith)
      ∙ ap (λ (j : ℕ). bit_of b j) (sym (zero-add i))
      ∙ W.inside i (omega arith)
      ∙ sym (in_bit bits small i))

  back : drop n b ≡ drop n a
  back =
      same_bits (drop n b) (drop n a) (λ i. rw get_or-drop (bytes-b (n + i))) (λ i. rw get_or-drop (bytes-a (n + i))) (rw (length-drop, length-drop, W.size)) (λ i l.
      bit_part b n i
      ∙ W.other (8 * n + i) (inr (omega arith))
      ∙ sym (bit_part a n i))

  pub wrote_start : b ≡ in_bytes bits ++ drop n a
  wrote_start = sym (take-append-drop n b) ∙ rw (front, back)

-- the bits that fill the last byte are zero
module _ (bits : List ℕ) (small : Small bits) where
  abbrev filled : List ℕ
  filled = bits_of (fill 8 (length bits)) 0

  filled_at : (i : ℕ) → get_or (bits ++ filled) i 0 ≡ get_or bits i 0
  filled_at i = elim (dec_lt i (length bits)) [
    | yes l ↦ get_or-append bits filled 0 i l
    | no l ↦
        let e : i ≡ length bits + (i - length bits) = omega arith in
        rw e (get_or-append-add bits filled (i - length bits) 0 ∙ bits_none (fill 8 (length bits)) (i - length bits)
        ∙ sym (get_or-eq_default bits 0 {n = length bits + (i - length bits)} (omega arith)))
  ]

  small-filled : Small (bits ++ filled)
  small-filled = small_append bits filled small (bits_small (fill 8 (length bits)) 0)

  size-filled : length (bits ++ filled) ≡ length bits + fill 8 (length bits)
  size-filled = length-append bits filled ∙ rw (length_bits_of (fill 8 (length bits)) 0)

  in-filled : in_bytes (bits ++ filled) ≡ in_bytes bits
  in-filled =
      let units = fill_units 8 (length bits) (lit≤ tt) in
      let same : bytes_for (length (bits ++ filled)) ≡ bytes_for (length bits) = rw size-filled (omega arith) in
      same_bits (in_bytes (bits ++ filled)) (in_bytes bits) (in_small (bits ++ filled) small-filled) (in_small bits small)
      (in_length (bits ++ filled) small-filled ∙ same ∙ sym (in_length bits small)) (λ i l.
      in_bit (bits ++ filled) small-filled i
      ∙ filled_at i
      ∙ sym (in_bit bits small i))

  -- bits, and zeros that fill the last byte, written over any bytes
  pub wrote_filled : {a b c : List ℕ} → Wrote a b 0 bits → Wrote b c (length bits) filled → Bytes a → Bytes c → bytes_for (length bits) ≤ length a
      → c ≡ in_bytes bits ++ drop (bytes_for (length bits)) a
  wrote_filled {a} {b} {c} W Z bytes-a bytes-c room =
      let units = fill_units 8 (length bits) (lit≤ tt) in
      let all : Wrote a c 0 (bits ++ filled) = wrote_then W (rw zero-add Z) in
      rw (← in-filled) (wrote_start a c (bits ++ filled) (bytes_for (length bits)) all small-filled bytes-a bytes-c (rw size-filled (sym units)) room)
