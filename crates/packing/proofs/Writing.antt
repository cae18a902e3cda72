-- Numbers packed one by one: the bits so far, by field and by record.
-- It stands on the laws of bits, of the writer and of records one behind the other.
use mathlib.Core.Path.{◌≡◌, ◌∙◌, refl, sym}
use mathlib.Core.List.{List, [], ◌∷◌, ◌++◌, append-nil}
use Prim.Native.Nat.{ℕ, suc, ◌+◌, ◌*◌, ◌%◌, ◌^◌, ◌≤◌, ◌<◌}
use native.Mathlib.Nat.{mul-le-mul_left, mod-lt}
use native.Mathlib.Omega.{arith}
use lib.ListN.{length, get_or, take, drop}
use lib.Seq.{length-take-le, take_all, take-suc, take-add}
use lib.Pow.{pow_pos}
use Rattle.bits.specs.Layout.{total, records, bits_of, packed_bits}
use Rattle.bits.specs.Writing.{Wrote}
use Rattle.bits.proofs.Bits.{bits_zero, bits_low, bits_split}
use Rattle.bits.proofs.Written.{wrote_nothing, wrote_then, behind_lt}
use Rattle.bits.proofs.Packing.{packed_length}
use Rattle.records.proofs.Underway.{total_next}
use Rattle.bits.proofs.Records.{records_last, total_records, length_records, packed_append}

packed_none : (xs : List ℕ) → packed_bits [] xs ≡ []
unfolding packed_bits
packed_none xs = refl

packed_one : (v x : ℕ) → packed_bits (v ∷ []) (x ∷ []) ≡ bits_of v x
unfolding packed_bits
packed_one v x = append-nil (bits_of v x)

-- the first j numbers joined into one
pub record Joining (vs xs : List ℕ) (acc j : ℕ) : Type 0 where
  pub few : j ≤ length vs
  pub small : acc < 2 ^ total (take j vs)
  pub bits : bits_of (total (take j vs)) acc ≡ packed_bits (take j vs) (take j xs)

-- the first j numbers written, up to bit `from`
pub record Writing (before after : List ℕ) (at : ℕ) (vs xs : List ℕ) (from j : ℕ) : Type 0 where
  pub few : j ≤ length vs
  pub place : from ≡ at + total (take j vs)
  pub wrote : Wrote before after at (packed_bits (take j vs) (take j xs))

pub join_none : (vs xs : List ℕ) → Joining vs xs 0 0
join_none vs xs = record { few = omega arith; small = pow_pos 0; bits = rw (bits_zero, packed_none) }

pub write_none : (before : List ℕ) (at : ℕ) (vs xs : List ℕ) → Writing before before at vs xs at 0
write_none before at vs xs = record { few = omega arith; place = omega arith; wrote = rw packed_none (wrote_nothing before at) }

module _ (vs xs : List ℕ) (room : length vs ≤ length xs) where
  same_length : (j : ℕ) → j ≤ length vs → length (take j xs) ≡ length (take j vs)
  same_length j l = length-take-le j xs (omega arith) ∙ sym (length-take-le j vs l)

  packed-next : (j : ℕ) → j < length vs → packed_bits (take (suc j) vs) (take (suc j) xs) ≡ packed_bits (take j vs) (take j xs) ++ bits_of (get_or vs j 0) (get_or xs j 0)
  packed-next j l =
      rw (take-suc vs j 0 l, take-suc xs j 0 (omega arith), packed_append (get_or vs j 0 ∷ []) (get_or xs j 0 ∷ []) (take j vs) (take j xs) (same_length j (omega arith)), packed_one)

  pub join_more : {acc j : ℕ} → Joining vs xs acc j → j < length vs → Joining vs xs (acc * 2 ^ get_or vs j 0 + get_or xs j 0 % 2 ^ get_or vs j 0) (suc j)
  join_more {acc} {j} u l =
      let v = get_or vs j 0 in
      let x = get_or xs j 0 in
      record {
        few = l;
        small = rw (total_next vs j l) (behind_lt (total (take j vs)) v x u.small);
        bits = rw (total_next vs j l, packed-next j l, bits_split (total (take j vs)) v acc (x % 2 ^ v) (mod-lt x (pow_pos v)), bits_low, u.bits);
      }

  pub join_all : {acc j : ℕ} → Joining vs xs acc j → length vs ≤ j → bits_of (total vs) acc ≡ packed_bits vs (take (length vs) xs)
  join_all {acc} {j} u l =
      let e : j ≡ length vs = omega (arith, u.few) in
      let b = u.bits in
      rw (e, take_all (length vs) vs (omega arith)) at b

  pub write_more : {before after next : List ℕ} {at from j : ℕ} → Writing before after at vs xs from j → j < length vs
      → Wrote after next from (bits_of (get_or vs j 0) (get_or xs j 0))
      → Writing before next at vs xs (from + get_or vs j 0) (suc j)
  write_more {before} {after} {next} {at} {from} {j} u l w =
      let place : from ≡ at + length (packed_bits (take j vs) (take j xs)) = rw (packed_length (take j vs) (take j xs) (same_length j (omega arith))) u.place in
      record {
        few = l;
        place = rw (total_next vs j l) (omega (arith, u.place));
        wrote = rw (packed-next j l) (wrote_then u.wrote (rw place at w));
      }

pub write_all : {before after : List ℕ} {at : ℕ} {vs xs : List ℕ} {from j : ℕ} → Writing before after at vs xs from j → length xs ≡ length vs → length vs ≤ j
    → Wrote before after at (packed_bits vs xs)
write_all {before} {after} {at} {vs} {xs} {from} {j} u e l =
    let w = u.wrote in
    rw (take_all j vs l, take_all j xs (omega arith)) at w

-- the numbers of the first i records written
pub record Repeating (before after : List ℕ) (at : ℕ) (vs xs : List ℕ) (count i : ℕ) : Type 0 where
  pub few : i ≤ count
  pub wrote : Wrote before after at (packed_bits (records i vs) (take (length vs * i) xs))

pub repeat_none : (before : List ℕ) (at : ℕ) (vs xs : List ℕ) (count : ℕ) → Repeating before before at vs xs count 0
unfolding records
repeat_none before at vs xs count = record { few = omega arith; wrote = rw packed_none (wrote_nothing before at) }

module _ (vs xs : List ℕ) (count : ℕ) (size : length xs ≡ length vs * count) where
  -- numbers are there for the fields of i records
  same-fields : (i : ℕ) → i ≤ count → length (take (length vs * i) xs) ≡ length (records i vs)
  same-fields i l = length-take-le (length vs * i) xs (omega (arith, mul-le-mul_left (length vs) l)) ∙ sym (length_records vs i)

  pub repeat_more : {before after next : List ℕ} {at i : ℕ} → Repeating before after at vs xs count i → i < count
      → Wrote after next (at + total vs * i) (packed_bits vs (take (length vs) (drop (length vs * i) xs)))
      → Repeating before next at vs xs count (suc i)
  repeat_more {before} {after} {next} {at} {i} u l w =
      let same = same-fields i (omega arith) in
      let place : total vs * i ≡ length (packed_bits (records i vs) (take (length vs * i) xs)) = rw (packed_length (records i vs) (take (length vs * i) xs) same, total_records) in
      let n : length vs * suc i ≡ length vs * i + length vs = omega arith in
      record {
        few = l;
        wrote =
            rw (records_last, n, take-add, packed_append vs (take (length vs) (drop (length vs * i) xs)) (records i vs) (take (length vs * i) xs) same)
            (wrote_then u.wrote (rw place at w));
      }

  pub repeat_all : {before after : List ℕ} {at i : ℕ} → Repeating before after at vs xs count i → count ≤ i → Wrote before after at (packed_bits (records count vs) xs)
  repeat_all {before} {after} {at} {i} u l =
      let e : i ≡ count = omega (arith, u.few) in
      let w = u.wrote in
      rw (e, take_all (length vs * count) xs (omega arith)) at w
