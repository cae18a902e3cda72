-- The decimal digits of any number: they are digits with no leading zero, and read back they give the number.
-- It stands on the definition alone.
use mathlib.Core.Path.{◌≡◌, refl, sym, ap, ◌∙◌}
use mathlib.Core.Bool.{Bool, true, false, cond}
use mathlib.Core.Logic.{◌⊎◌, inl, inr, ⊎_elim}
use mathlib.Core.List.{List, [], ◌∷◌, ◌++◌}
use Prim.Native.Nat.{ℕ, zero, suc, ◌+◌, ◌*◌, ◌-◌, ◌/◌, ◌%◌, ◌^◌, ◌≤◌, ◌<◌}
use native.Mathlib.Nat.{pow-suc, div-lt_iff_lt-mul, zero-lt-suc, eq-or-lt_of_le}
use native.Mathlib.Omega.{arith}
use lib.Dec.{ltb}
use lib.ListN.{length, get_or, length-append, get_or-append}
use lib.Seq.{get_or_at}
use borrow.Author.Tests.{lt-ltb, le-ltb, ltb-true, ltb-false}
use Rattle.decimal.specs.Decimal.{digit_byte, digits_within, decimal_of, read_from, Spells}

-- What holds of one digit, and of a number with one digit more where it holds of the number without, holds of all.
module _ (Q : ℕ → List ℕ → Type 0) (one : (n : ℕ) → n < 10 → Q n (digit_byte n ∷ []))
    (more : (n : ℕ) (ds : List ℕ) → 10 ≤ n → Q (n / 10) ds → Q n (ds ++ (digit_byte (n % 10) ∷ []))) where
  by-digits-within : (most n : ℕ) → n < most → Q n (digits_within most n)
  unfolding digits_within
  by-digits-within zero n h = absurd (omega arith)
  by-digits-within (suc most) n h = go (ltb n 10) refl (λ t. by-digits-within most (n / 10) (omega arith))
    where
      go : (t : Bool) → ltb n 10 ≡ t → (10 ≤ n → Q (n / 10) (digits_within most (n / 10)))
          → Q n (cond t (digit_byte n ∷ []) (digits_within most (n / 10) ++ (digit_byte (n % 10) ∷ [])))
      go true e before = one n (ltb-true n 10 e)
      go false e before = more n (digits_within most (n / 10)) (ltb-false n 10 e) (before (ltb-false n 10 e))

  pub by_digits : (n : ℕ) → Q n (decimal_of n)
  unfolding decimal_of
  by_digits n = by-digits-within (suc n) n (omega arith)

-- How the digits of a number follow from those of a tenth.
within_one : (most n : ℕ) → n < most → n < 10 → digits_within most n ≡ digit_byte n ∷ []
unfolding digits_within
within_one zero n h k = absurd (omega arith)
within_one (suc most) n h k = rw (lt-ltb n 10 k)

within_more : (most n : ℕ) → 10 ≤ n → digits_within (suc most) n ≡ digits_within most (n / 10) ++ (digit_byte (n % 10) ∷ [])
unfolding digits_within
within_more most n k = rw (le-ltb n 10 k)

-- room for more digits changes nothing
within_any : (n most : ℕ) → n < most → digits_within most n ≡ decimal_of n
within_any = by_digits (λ n ds. (most : ℕ) → n < most → digits_within most n ≡ ds) (λ n k most h. within_one most n h k) more
  where
    more : (n : ℕ) (ds : List ℕ) → 10 ≤ n → ((most : ℕ) → n / 10 < most → digits_within most (n / 10) ≡ ds)
        → (most : ℕ) → n < most → digits_within most n ≡ ds ++ (digit_byte (n % 10) ∷ [])
    more n ds k before zero h = absurd (omega arith)
    more n ds k before (suc most) h = rw (within_more most n k, before most (omega arith))

pub decimal_one : (n : ℕ) → n < 10 → decimal_of n ≡ digit_byte n ∷ []
unfolding decimal_of
decimal_one n k = within_one (suc n) n (omega arith) k

pub decimal_more : (n : ℕ) → 10 ≤ n → decimal_of n ≡ decimal_of (n / 10) ++ (digit_byte (n % 10) ∷ [])
decimal_more n k = sym (within_any n (suc n) (omega arith)) ∙ rw (within_more n n k, within_any (n / 10) n (omega arith))

read_append : (n : ℕ) (a b : List ℕ) → read_from n (a ++ b) ≡ read_from (read_from n a) b
unfolding read_from
read_append n [] b = refl
read_append n (x ∷ a) b = read_append (n * 10 + (x - 48)) a b

digits_more : (ds : List ℕ) (d : ℕ) → d < 10 → ((i : ℕ) → i < length ds → (48 ≤ get_or ds i 0) × (get_or ds i 0 ≤ 57))
    → (i : ℕ) → i < length (ds ++ (digit_byte d ∷ [])) → (48 ≤ get_or (ds ++ (digit_byte d ∷ [])) i 0) × (get_or (ds ++ (digit_byte d ∷ [])) i 0 ≤ 57)
digits_more ds d h before i l = go (eq-or-lt_of_le (let l' : i ≤ length ds = omega (arith, length-append ds (digit_byte d ∷ [])) in l'))
  where
    go : (i ≡ length ds) ⊎ (i < length ds) → (48 ≤ get_or (ds ++ (digit_byte d ∷ [])) i 0) × (get_or (ds ++ (digit_byte d ∷ [])) i 0 ≤ 57)
    go (inl e) = rw (get_or_at ds (digit_byte d) [] 0 i (sym e)) (omega arith)
    go (inr l) = rw (get_or-append ds (digit_byte d ∷ []) 0 i l) (before i l)

leads_more : (ds t : List ℕ) (n : ℕ) → 0 < n → Spells ds n → 48 < get_or (ds ++ t) 0 0
unfolding read_from
leads_more [] t n h S = ⊎_elim (λ e. absurd (omega arith)) (λ l. absurd (omega arith)) S.leads
leads_more (x ∷ []) t n h S = omega (arith, S.reads)
leads_more (x ∷ y ∷ ds) t n h S = ⊎_elim (λ e. absurd (omega arith)) (λ l. l) S.leads

one_spells : (n : ℕ) → n < 10 → Spells (digit_byte n ∷ []) n
unfolding read_from
one_spells n h = record { digits = λ i l. digits_more [] n h (λ j m. absurd (omega arith)) i l; leads = inl refl; reads = omega arith }

more_spells : (n : ℕ) (ds : List ℕ) → 10 ≤ n → Spells ds (n / 10) → Spells (ds ++ (digit_byte (n % 10) ∷ [])) n
unfolding read_from
more_spells n ds h S = record {
  digits = λ i l. digits_more ds (n % 10) (omega arith) S.digits i l;
  leads = inr (leads_more ds _ (n / 10) (omega arith) S);
  reads = read_append 0 ds _ ∙ rw S.reads (omega arith);
}

pub decimal_spells : (n : ℕ) → Spells (decimal_of n) n
decimal_spells = by_digits (λ n ds. Spells ds n) one_spells more_spells

-- so different numbers have different digits
pub decimal_apart : (m n : ℕ) → decimal_of m ≡ decimal_of n → m ≡ n
decimal_apart m n e = sym (decimal_spells m).reads ∙ ap (read_from 0) e ∙ (decimal_spells n).reads

-- a number below 10 ^ k has at most k digits
pub decimal_length : (k n : ℕ) → n < 10 ^ suc k → length (decimal_of n) ≤ suc k
decimal_length k n = by_digits (λ n ds. (k : ℕ) → n < 10 ^ suc k → length ds ≤ suc k) (λ n h k l. omega arith) more n k
  where
    more : (n : ℕ) (ds : List ℕ) → 10 ≤ n → ((k : ℕ) → n / 10 < 10 ^ suc k → length ds ≤ suc k)
        → (k : ℕ) → n < 10 ^ suc k → length (ds ++ (digit_byte (n % 10) ∷ [])) ≤ suc k
    more n ds h before zero l = absurd (omega arith)
    more n ds h before (suc k) l = rw length-append (omega (arith, before k ((div-lt_iff_lt-mul {x = n} {y = 10 ^ suc k} (zero-lt-suc 9)).1 (rw pow-suc at l))))
