-- An accepted plan has at most 34,362 bytes, 35,619 in form two, and at most 168 reads: a party's operations stand apart, so that few fit below the plan's
-- ticks.
-- It stands on the laws of waiting and on the ranges of the header.
use mathlib.Core.Path.{◌≡◌, refl}
use mathlib.Core.Bool.{Bool, true, false, not, ◌&&◌, ◌||◌, or-true}
use mathlib.Core.List.{List}
use Prim.Native.Nat.{ℕ, zero, suc, ◌+◌, ◌*◌, ◌≤◌, ◌<◌}
use native.Mathlib.Nat.{mul-le-mul_left}
use native.Mathlib.Omega.{arith}
use lib.Dec.{leb, ltb, eqb}
use lib.ListN.{length}
use borrow.Author.Tests.{leb-true, ltb-true, eqb-true, lt-ltb, ne_eqb}
use Rattle.register.specs.Lists.{all_up_to, count, one_if}
use Rattle.bits.specs.Fill.{bytes_for}
use Rattle.plan.specs.Form.{form_one, form_two, width_of}
use Rattle.plan.specs.Header.{Header, header_of, header_bits, operation_bits, forgery_bits, moves, parties, bit_length}
use Rattle.plan.specs.Parts.{operation_of, operations_of}
use Rattle.plan.specs.Check.{operation_stands, operations_stand, operation_rises, operation_waits, end_of, check_of, check_in, result}
use Rattle.plan.specs as plan-specs
use Rattle.plan.proofs.Laws.{all_at, all_from, table_few}
use Rattle.register.proofs.{Logic.T_eq, Logic.and_both, Counting.count_not}
use Rattle.plan.proofs.{Accept.playable, Accept.reads_counted, Waiting.ended}
use Rattle.plan.proofs as plan-laws

-- Operations of one party, each of which begins after the last one's end.
module _ (party at end : ℕ → ℕ) (p d : ℕ) where
  mine : ℕ → ℕ
  mine i = count (λ j. eqb (party j) p) i

  -- so many of them take so many ticks
  apart-step : (i t : ℕ) (b : Bool) → eqb (party i) p ≡ b → (b ≡ true → mine i * (d + 1) ≤ at i) → (b ≡ true → at i + d ≤ end i)
      → (not b || ltb (end i) t) && ended party end i p t ≡ true → (ended party end i p t ≡ true → mine i * (d + 1) ≤ t)
      → (one_if b + mine i) * (d + 1) ≤ t
  apart-step i t true e w f h ih =
      let l = ltb-true (end i) t (and_both (ltb (end i) t) (ended party end i p t) h).0 in
      let x = w refl in
      let y = f refl in
      omega arith
  apart-step i t false e w f h ih = omega (arith, ih h)

  apart : (n : ℕ) → ((j : ℕ) → j < n → eqb (party j) p ≡ true → at j + d ≤ end j)
      → ((j : ℕ) → j < n → eqb (party j) p ≡ true → ended party end j p (at j) ≡ true)
      → (i t : ℕ) → i ≤ n → ended party end i p t ≡ true → mine i * (d + 1) ≤ t
  unfolding mine count ended all_up_to
  apart n f w zero t l h = omega arith
  apart n f w (suc i) t l h =
      apart-step i t (eqb (party i) p) refl (λ e. apart n f w i (at i) (omega arith) (w i (omega arith) e)) (f i (omega arith)) h (apart n f w i t (omega arith))

one_of_five : (p : ℕ) → p ≤ 4 → one_if (eqb p 0) + one_if (eqb p 1) + one_if (eqb p 2) + one_if (eqb p 3) + one_if (eqb p 4) ≡ 1
one_of_five zero l = refl
one_of_five (suc zero) l = refl
one_of_five (suc (suc zero)) l = refl
one_of_five (suc (suc (suc zero))) l = refl
one_of_five (suc (suc (suc (suc zero)))) l = refl
one_of_five (suc (suc (suc (suc (suc p))))) l = absurd (omega arith)

-- every operation is some party's
five_parties : (party : ℕ → ℕ) (n : ℕ) → ((j : ℕ) → j < n → party j ≤ 4)
    → count (λ j. eqb (party j) 0) n + count (λ j. eqb (party j) 1) n + count (λ j. eqb (party j) 2) n + count (λ j. eqb (party j) 3) n + count (λ j. eqb (party j) 4) n ≡ n
unfolding count
five_parties party zero f = refl
five_parties party (suc n) f = omega (arith, one_of_five (party n) (f n (omega arith)), five_parties party n (λ j l. f j (omega arith)))

module _ (w : ℕ) (s : List ℕ) (h : Header) (r : plan-specs.Shape.Ranged h) (stand : operations_stand w s h ≡ true) where
  party : ℕ → ℕ
  party j = (operation_of w s h j).party

  begun : ℕ → ℕ
  begun j = (operation_of w s h j).at

  done : ℕ → ℕ
  done j = end_of h (operation_of w s h j)

  -- the five tests of an operation
  each : (j : ℕ) → j < h.operations → (party j ≤ h.readers) × (done j < h.ticks) × (ended party done j (party j) (begun j) ≡ true)
  unfolding operations_stand operation_stands operation_waits ended party begun done
  each j l =
      let o = operation_of w s h j in
      let all = all_at (operation_stands w s h) h.operations j l stand in
      let b1 = and_both (leb o.party h.readers) _ all in
      let b2 = and_both (eqb o.party 0 || eqb o.value 0) _ b1.1 in
      let b3 = and_both (ltb (end_of h o) h.ticks) _ b2.1 in
      let b4 = and_both (operation_rises w s h j) _ b3.1 in
      (leb-true o.party h.readers b1.0, ltb-true (end_of h o) h.ticks b3.0, b4.1)

  -- so many of a party fit below the ticks
  fit : (p d : ℕ) → ((j : ℕ) → eqb (party j) p ≡ true → begun j + d ≤ done j) → count (λ j. eqb (party j) p) h.operations * (d + 1) ≤ 128
  unfolding mine ended
  fit p d f =
      let n = h.operations in
      let below = all_from (λ j. not (eqb (party j) p) || ltb (done j) h.ticks) n (λ j l. rw (lt-ltb (done j) h.ticks (each j l).1) (or-true (not (eqb (party j) p)))) in
      let waits : (j : ℕ) → j < n → eqb (party j) p ≡ true → ended party done j p (begun j) ≡ true = λ j l e. rw (eqb-true (party j) p e) at (each j l).2 in
      omega (arith, apart party begun done p d n (λ j l. f j) waits n h.ticks (omega arith) below)

  -- 64 writes
  writes-few : count (λ j. eqb (party j) 0) h.operations ≤ 64
  unfolding party begun done end_of
  writes-few =
      let c = count (λ j. eqb (party j) 0) h.operations in
      let m = fit 0 h.delta (λ j e. rw e (omega arith)) in
      omega (arith, mul-le-mul_left {m = 2} {n = h.delta + 1} c (omega arith))

  -- 42 reads of one reader
  reads_few : (p : ℕ) → 1 ≤ p → count (λ j. eqb (party j) p) h.operations ≤ 42
  unfolding party begun done end_of
  reads_few p l =
      let c = count (λ j. eqb (party j) p) h.operations in
      let m = fit p (2 * h.delta) (λ j e. rw (ne_eqb (operation_of w s h j).party 0 (λ z. omega (arith, eqb-true (operation_of w s h j).party p e))) (omega arith)) in
      omega (arith, mul-le-mul_left {m = 3} {n = 2 * h.delta + 1} c (omega arith))

  -- 232 operations
  pub operations_few : h.operations ≤ 232
  operations_few =
      let all = five_parties party h.operations (λ j l. omega (arith, (each j l).0)) in
      let one : (p : ℕ) → 1 ≤ p → count (λ j. eqb (party j) p) h.operations ≤ 42 = reads_few in
      omega (arith, all, writes-few, one 1 (omega arith), one 2 (omega arith), one 3 (omega arith), one 4 (omega arith))

  -- four times 42 reads
  reads-of-few : count (λ j. not (eqb (party j) 0)) h.operations ≤ plan-specs.Limits.most_reads
  reads-of-few =
      let all = five_parties party h.operations (λ j l. omega (arith, (each j l).0)) in
      let one : (p : ℕ) → 1 ≤ p → count (λ j. eqb (party j) p) h.operations ≤ 42 = reads_few in
      let rest = count_not (λ j. eqb (party j) 0) h.operations in
      omega (arith, all, rest, one 1 (omega arith), one 2 (omega arith), one 3 (omega arith), one 4 (omega arith))

-- A plan that can be played: what its operations and its header's ranges are.
module _ (w : ℕ) (s : List ℕ) (A : plan-specs.Playable.Playable w s) where
  stands : operations_stand w s (header_of w s) ≡ true
  stands = T_eq (operations_stand w s (header_of w s)) A.operations

  in_range : plan-specs.Shape.Ranged (header_of w s)
  in_range = plan-laws.Ranges.ranged_header w s (T_eq (plan-specs.Check.header_in_range (header_of w s)) A.header)

  -- at most 128 placements, 232 operations, 1,024 forgeries and the delays of 128 ticks and 21 parties
  pub longest_bits : bit_length w (header_of w s) ≤ header_bits w + 16 * 128 + operation_bits w * 232 + forgery_bits w * 1024 + 4 * 56448
  unfolding moves
  longest_bits =
      let h = header_of w s in
      let o = mul-le-mul_left {m = h.operations} {n = 232} w (operations_few w s h in_range stands) in
      let f = mul-le-mul_left {m = h.forgeries} {n = 1024} w in_range.forgeries_hi in
      let p = plan-laws.Laws.moves_few h.ticks h.period (omega (arith, in_range)) in
      let t = table_few h.ticks (parties h) (omega (arith, in_range)) (omega (arith, in_range)) in
      omega (arith, operations_few w s h in_range stands, in_range)

  -- and at most 168 reads
  pub reads_limited : length (plan-specs.Packed.plan_of w s).reads ≤ plan-specs.Limits.most_reads
  unfolding plan-specs.Packed.plan_of operations_of party
  reads_limited =
      let h = header_of w s in
      rw (plan-laws.Reading.length_reads h.operations (operation_of w s h)) (reads-of-few w s h in_range stands)

pub most_reads_lem : (w : ℕ) (s : List ℕ) (m : ℕ) → check_of w s ≡ result m → m ≤ plan-specs.Limits.most_reads
most_reads_lem w s m e = rw (reads_counted w s m e) (reads_limited w s (playable w s m e))

-- 'An accepted plan has at most 34,362 bytes.' 'an accepted plan of form two has at most 35,619 bytes'
pub longest : (form : ℕ) (s : List ℕ) (m : ℕ) → check_in form s ≡ result m → length s ≤ plan-specs.Limits.most_bytes form
longest form s m e =
    let (known, accepted) = plan-laws.Forms.form_passed form s m e in
    let bounded : (w : ℕ) (q : check_of w s ≡ result m) → length s ≤ bytes_for (header_bits w + 16 * 128 + operation_bits w * 232 + forgery_bits w * 1024 + 4 * 56448) =
    λ w q. omega (arith, plan-laws.Accept.exact w s (playable w s m q), longest_bits w s (playable w s m q)) in
    plan-laws.Forms.by_form (λ (form : ℕ). check_of (width_of form) s ≡ result m → length s ≤ plan-specs.Limits.most_bytes form) (bounded (width_of form_one)) (bounded (width_of form_two)) form known accepted
