-- Bits on the way from one byte string to another: what is written so far, by bytes, by fields and by records.
-- It stands on the laws of the writer and of numbers packed one by one.
use mathlib.Core.Path.{◌≡◌, ◌∙◌, ap, sym}
use mathlib.Core.List.{List}
use Prim.Native.Nat.{ℕ, suc, ◌+◌, ◌*◌, ◌-◌, ◌/◌, ◌%◌, ◌^◌, ◌≤◌, ◌<◌}
use native.Mathlib.Omega.{arith}
use lib.ListN.{length, get_or, set, take, drop}
use lib.Seq.{take_all}
use Rattle.bits.specs.Field.{field_of}
use Rattle.bits.specs.Layout.{total, records, numbers_at, bits_of, packed_bits}
use Rattle.bits.specs.Writing.{Wrote}
use Rattle.bits.proofs.{Bits.length_bits_of, Bits.bits_zero, Packing.bits_join, Numbers.numbers_length}
use Rattle.bits.proofs.Laws.{field_byte, bytes_more, field_cut}
use Rattle.bits.proofs.Written.{wrote_nothing, wrote_then, wrote_byte}
use Rattle.bits.proofs.Records.{length_records, record_at}
use Rattle.records.proofs.Underway.{total_next, number_behind}
use Rattle.packing.proofs.Writing.{Writing, write_none, write_more, write_all, Repeating, repeat_none, repeat_more, repeat_all}

-- the first bits copied
pub record Copying (before after s : List ℕ) (from to bits done : ℕ) : Type 0 where
  pub few : done ≤ bits
  pub wrote : Wrote before after to (bits_of done (field_of s from done))

pub copy_none : (before s : List ℕ) (from to bits : ℕ) → Copying before before s from to bits 0
copy_none before s from to bits = record { few = omega arith; wrote = rw bits_zero (wrote_nothing before to) }

pub copy_more : {before after next s : List ℕ} {from to bits done : ℕ} (more : ℕ) → Copying before after s from to bits done → done + more ≤ bits
    → Wrote after next (to + done) (bits_of more (field_of s (from + done) more))
    → Copying before next s from to bits (done + more)
copy_more {before} {after} {next} {s} {from} {to} {bits} {done} more u l w =
    let place : to + done ≡ to + length (bits_of done (field_of s from done)) = rw length_bits_of in
    record { few = l; wrote = rw (← bits_join s from done more) (wrote_then u.wrote (rw place at w)) }

pub copy_all : {before after s : List ℕ} {from to bits done : ℕ} → Copying before after s from to bits done → bits ≤ done
    → Wrote before after to (bits_of bits (field_of s from bits))
copy_all {before} {after} {s} {from} {to} {bits} {done} u l =
    let e : done ≡ bits = omega (arith, u.few) in
    let w = u.wrote in
    rw e at w

-- three copies, each behind the one before it, are one
module _ (s : List ℕ) {a b c d : List ℕ} where
  pub three_copied : (from bits : ℕ) {from' from'' to to' to'' : ℕ} (m n k : ℕ) → (from' ≡ from + m) × (to' ≡ to + m) → (from'' ≡ from' + n) × (to'' ≡ to' + n)
      → Wrote a b to (bits_of m (field_of s from m)) → Wrote b c to' (bits_of n (field_of s from' n)) → Wrote c d to'' (bits_of k (field_of s from'' k))
      → m + n + k ≡ bits → Wrote a d to (bits_of bits (field_of s from bits))
  three_copied from bits {from'} {from''} {to} {to'} {to''} m n k p q W X Y e =
      let first : Copying a b s from to bits m = record { few = omega arith; wrote = W } in
      let second = copy_more n first (omega arith) (rw (p.0, p.1) at X) in
      let f : from'' ≡ from + (m + n) = omega (arith, p.0, q.0) in
      let t : to'' ≡ to + (m + n) = omega (arith, p.1, q.1) in
      copy_all (copy_more k second (omega arith) (rw (f, t) at Y)) (omega arith)

-- a byte out of the two that hold its bits
byte_two : (s : List ℕ) (at : ℕ) → get_or s (at / 8) 0 < 256 → get_or s (at / 8 + 1) 0 < 256
    → (get_or s (at / 8) 0 * 256 + get_or s (at / 8 + 1) 0) / 2 ^ (8 - at % 8) % 256 ≡ field_of s at 8
byte_two s at h g =
    let e : 8 - at % 8 ≡ 8 * 2 - at % 8 - 8 = omega arith in
    rw (e, ← field_byte s (at / 8) h, ← bytes_more s (at / 8) 1 g) (field_cut s at 8 2 (omega arith))

-- one byte more
pub byte_more : {before after s : List ℕ} {from to count k : ℕ} → Copying before after s from to (8 * count) (8 * k) → 8 * (to / 8) ≡ to → k < count → to / 8 + k < length after
    → get_or s (from / 8 + k) 0 < 256 → get_or s (from / 8 + k + 1) 0 < 256
    → Copying before (set after (to / 8 + k) ((get_or s (from / 8 + k) 0 * 256 + get_or s (from / 8 + k + 1) 0) / 2 ^ (8 - from % 8) % 256)) s from to (8 * count) (8 * (k + 1))
byte_more {before} {after} {s} {from} {to} {count} {k} u whole l room h g =
    let at = from + 8 * k in
    let d : from / 8 + k ≡ at / 8 = omega arith in
    let m : from % 8 ≡ at % 8 = omega arith in
    let place : 8 * (to / 8 + k) ≡ to + 8 * k = omega arith in
    let next : 8 * (k + 1) ≡ 8 * k + 8 = omega arith in
    let value = (rw (← d, ← m) at (byte_two s at (rw (← d) h) (rw (← d) g))) in
    rw next (copy_more 8 u (omega arith) (rw (← value, ← place) (wrote_byte after (to / 8 + k) _ room)))

-- the first j fields of a record moved
pub record Moving (before after wanted s had : List ℕ) (from₀ to₀ from to j : ℕ) : Type 0 where
  pub place : from ≡ from₀ + total (take j had)
  pub writing : Writing before after to₀ wanted (numbers_at had s from₀) to j

pub move_none : (before wanted s had : List ℕ) (from to : ℕ) → Moving before before wanted s had from to from to 0
move_none before wanted s had from to = record { place = omega arith; writing = write_none before to wanted (numbers_at had s from) }

module _ (wanted s had : List ℕ) (same : length had ≡ length wanted) where
  pub move_more : {before after next : List ℕ} {from₀ to₀ from to j : ℕ} → Moving before after wanted s had from₀ to₀ from to j → j < length wanted
      → Wrote after next to (bits_of (get_or wanted j 0) (field_of s from (get_or had j 0)))
      → Moving before next wanted s had from₀ to₀ (from + get_or had j 0) (to + get_or wanted j 0) (suc j)
  move_more {before} {after} {next} {from₀} {to₀} {from} {to} {j} u l w =
      let number : get_or (numbers_at had s from₀) j 0 ≡ field_of s from (get_or had j 0) = sym (rw (← u.place) at (number_behind had s from₀ j (omega arith))) in
      record {
        place = rw (total_next had j (omega arith)) (omega (arith, u.place));
        writing = write_more wanted (numbers_at had s from₀) (rw numbers_length (omega arith)) u.writing l (rw number w);
      }

  pub move_all : {before after : List ℕ} {from₀ to₀ from to j : ℕ} → Moving before after wanted s had from₀ to₀ from to j → length wanted ≤ j
      → Wrote before after to₀ (packed_bits wanted (numbers_at had s from₀)) × (from ≡ from₀ + total had) × (to ≡ to₀ + total wanted)
  move_all {before} {after} {from₀} {to₀} {from} {to} {j} u l = (
    write_all u.writing (numbers_length had s from₀ ∙ same) l,
    u.place ∙ rw (take_all j had (omega arith)),
    u.writing.place ∙ rw (take_all j wanted l),
  )

-- the first i records moved
pub record Following (before after wanted s had : List ℕ) (from₀ to₀ count from to i : ℕ) : Type 0 where
  pub read : from ≡ from₀ + total had * i
  pub written : to ≡ to₀ + total wanted * i
  pub repeating : Repeating before after to₀ wanted (numbers_at (records count had) s from₀) count i

pub follow_none : (before wanted s had : List ℕ) (from to count : ℕ) → Following before before wanted s had from to count from to 0
follow_none before wanted s had from to count = record {
  read = omega arith;
  written = omega arith;
  repeating = repeat_none before to wanted (numbers_at (records count had) s from) count;
}

module _ (wanted s had : List ℕ) (same : length had ≡ length wanted) (from₀ to₀ count : ℕ) where
  -- a number for each field
  numbers-full : length (numbers_at (records count had) s from₀) ≡ length wanted * count
  numbers-full = numbers_length (records count had) s from₀ ∙ length_records had count ∙ ap (λ (n : ℕ). n * count) same

  pub follow_more : {before after next : List ℕ} {from to i : ℕ} → Following before after wanted s had from₀ to₀ count from to i → i < count
      → Wrote after next to (packed_bits wanted (numbers_at had s from))
      → Following before next wanted s had from₀ to₀ count (from + total had) (to + total wanted) (suc i)
  follow_more {before} {after} {next} {from} {to} {i} u l w =
      let here : numbers_at had s from ≡ take (length wanted) (drop (length wanted * i) (numbers_at (records count had) s from₀)) =
      ap (numbers_at had s) u.read ∙ sym (rw (← same) (record_at had s count i from₀ l)) in
      record {
        read = omega (arith, u.read);
        written = omega (arith, u.written);
        repeating = repeat_more wanted (numbers_at (records count had) s from₀) count numbers-full u.repeating l (rw (u.written, here) at w);
      }

  pub follow_all : {before after : List ℕ} {from to i : ℕ} → Following before after wanted s had from₀ to₀ count from to i → count ≤ i
      → Wrote before after to₀ (packed_bits (records count wanted) (numbers_at (records count had) s from₀))
      × (from ≡ from₀ + total had * count) × (to ≡ to₀ + total wanted * count)
  follow_all {before} {after} {from} {to} {i} u l =
      let e : i ≡ count = omega (arith, u.repeating.few) in (
        repeat_all wanted (numbers_at (records count had) s from₀) count numbers-full u.repeating l,
        u.read ∙ rw e,
        u.written ∙ rw e,
      )
