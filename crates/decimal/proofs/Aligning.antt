-- Words and numbers at the right end of columns: what they fill, what they read back as, and how they are stored over an empty line.
-- It stands on the laws of digits and of bytes stored in a row.
use mathlib.Core.Path.{◌≡◌, refl, sym, ap, ◌∙◌}
use mathlib.Core.List.{List, [], ◌∷◌, ◌++◌, append_assoc}
use Prim.Native.Nat.{ℕ, zero, suc, ◌+◌, ◌-◌, ◌/◌, ◌%◌, ◌^◌, ◌≤◌, ◌<◌}
use native.Mathlib.Decide.{dec_le}
use native.Mathlib.Omega.{arith}
use lib.ListN.{length, take, drop, length-append, length-replicate, replicate-append-replicate}
use lib.Seq.{sets-eq, take_at, drop_at, take-append-add, drop-append-add}
use Rattle.decimal.specs.Decimal.{digit_byte, decimal_of, read_from}
use Rattle.decimal.specs.Stored.{Stored}
use Rattle.decimal.specs.Aligned.{space, spaces, right, aligned, Aligned}
use Rattle.decimal.proofs.Laws.{decimal_one, decimal_more, decimal_spells, decimal_length}
use Rattle.decimal.proofs.Stores.{stored_then}

-- a word that is not too long fills its columns
pub right_length : (c : ℕ) (word : List ℕ) → length word ≤ c → length (right c word) ≡ c
unfolding right
right_length c word h = rw (length-append (spaces (c - length word)) word, length-replicate {A = ℕ} (c - length word) space) (omega arith)

-- columns at the right end of wider ones
pub right_right : (c k : ℕ) (word : List ℕ) → length word ≤ k → k ≤ c → right c (right k word) ≡ right c word
unfolding right
right_right c k word h l =
    let inner : length (spaces (k - length word) ++ word) ≡ k = right_length k word h in
    let e : c - k + (k - length word) ≡ c - length word = omega arith in
    rw inner (sym (append_assoc (spaces (c - k)) (spaces (k - length word)) word) ∙ rw (replicate-append-replicate {A = ℕ} (c - k) (k - length word) space, e))

read_spaces : (k : ℕ) (word : List ℕ) → read_from 0 (spaces k ++ word) ≡ read_from 0 word
unfolding read_from
read_spaces zero word = refl
read_spaces (suc k) word = read_spaces k word

-- what stands before a word counts nothing
pub read_word : (c : ℕ) (word : List ℕ) → read_from 0 (right c word) ≡ read_from 0 word
unfolding right
read_word c word = read_spaces (c - length word) word

pub read_right : (c n : ℕ) → read_from 0 (aligned c n) ≡ n
read_right c n = read_word c (decimal_of n) ∙ (decimal_spells n).reads

-- a number below 10 ^ c has at most c digits, and zero has one
pub digits_fit : (c n : ℕ) → 0 < c → n < 10 ^ c → length (decimal_of n) ≤ c
digits_fit zero n p h = absurd (omega arith)
digits_fit (suc k) n p h = decimal_length k n h

-- every number in every width
pub number_aligned : (columns n : ℕ) → Aligned columns n (aligned columns n)
number_aligned c n = record { reads = read_right c n; fills = λ p h. right_length c (decimal_of n) (digits_fit c n p h) }

-- How many digits a number has, by a tenth of it; it has one at least.
pub one_digit : (n : ℕ) → n < 10 → length (decimal_of n) ≡ 1
one_digit n h = ap length (decimal_one n h)

pub one_more_digit : (n : ℕ) → 10 ≤ n → length (decimal_of n) ≡ length (decimal_of (n / 10)) + 1
one_more_digit n h = ap length (decimal_more n h) ∙ length-append (decimal_of (n / 10)) (digit_byte (n % 10) ∷ [])

pub some_digit : (n : ℕ) → 1 ≤ length (decimal_of n)
some_digit n = elim (dec_le 10 n) [ yes h ↦ omega (arith, one_more_digit n h) | no h ↦ omega (arith, one_digit n (omega arith)) ]

-- The digits of a number are stored before place e: one, or those of a tenth and the last.
pub right_one : {l o : List ℕ} {y : ℕ} (n e : ℕ) → n < 10 → length (decimal_of n) ≤ e → Stored l (e - 1) (digit_byte (n % 10) ∷ []) o y
    → Stored l (e - length (decimal_of n)) (decimal_of n) o e
right_one n e h room S =
    let last : n % 10 ≡ n = omega arith in
    rw (decimal_one n h) (record { next_is = omega (arith, one_digit n h); bytes_are = rw last at S.bytes_are })

pub right_more : {l m o : List ℕ} {y : ℕ} (n e : ℕ) → 10 ≤ n → length (decimal_of n) ≤ e
    → Stored l (e - 1 - length (decimal_of (n / 10))) (decimal_of (n / 10)) m (e - 1) → Stored m (e - 1) (digit_byte (n % 10) ∷ []) o y
    → Stored l (e - length (decimal_of n)) (decimal_of n) o e
right_more {y = y} n e h room S U =
    let start : e - 1 - length (decimal_of (n / 10)) ≡ e - length (decimal_of n) = omega (arith, one_more_digit n h) in
    let end : y ≡ e = omega (arith, U.next_is, one_more_digit n h) in
    rw (← start, decimal_more n h) (rw end at (stored_then S U))

-- A word is stored over the spaces behind x, so that c columns end with it, and r spaces are left.
module _ (x word : List ℕ) (at c r : ℕ) (h : length word ≤ c) (e : at + length word ≡ length x + c) where
  abbrev gap : ℕ
  gap = c - length word

  before : take at (x ++ spaces (c + r)) ≡ x ++ spaces gap
  before =
      let p : at ≡ length x + gap = omega arith in
      let q : c + r ≡ gap + (length word + r) = omega arith in
      rw (p, q, take-append-add x (spaces (gap + (length word + r))) gap, ← replicate-append-replicate {A = ℕ} gap (length word + r) space)
      (ap (λ (t : List ℕ). x ++ t) (take_at (spaces gap) (spaces (length word + r)) gap (length-replicate {A = ℕ} gap space)))

  behind : drop (at + length word) (x ++ spaces (c + r)) ≡ spaces r
  behind =
      rw (e, drop-append-add x (spaces (c + r)) c, ← replicate-append-replicate {A = ℕ} c r space)
      (drop_at (spaces c) (spaces r) c (length-replicate {A = ℕ} c space))

  pub stored_right : {o : List ℕ} {y : ℕ} → Stored (x ++ spaces (c + r)) at word o y → o ≡ (x ++ right c word) ++ spaces r
  unfolding right
  stored_right S =
      let inside : at + length word ≤ length (x ++ spaces (c + r)) = rw (length-append x (spaces (c + r)), length-replicate {A = ℕ} (c + r) space) (omega arith) in
      S.bytes_are ∙ sets-eq word (x ++ spaces (c + r)) at inside ∙ rw (before, behind)
      (ap (λ (t : List ℕ). t ++ spaces r) (append_assoc x (spaces gap) word))
