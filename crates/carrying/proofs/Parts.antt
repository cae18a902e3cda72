-- Fields of two byte strings that hold the same numbers, and records read by one list of widths that fit another.
-- It stands on the laws of bit fields and of records.
use mathlib.Core.Path.{◌≡◌, ◌∙◌, refl, ap, sym}
use mathlib.Core.Bool.{true}
use mathlib.Core.List.{List}
use Prim.Native.Nat.{ℕ, zero, suc, ◌+◌, ◌*◌, ◌-◌, ◌/◌, ◌%◌, ◌^◌, ◌≤◌, ◌<◌}
use native.Mathlib.Omega.{arith}
use lib.ListN.{length, take, drop}
use Rattle.bits.specs.Field.{field_of}
use Rattle.bits.specs.Layout.{total, records, numbers_at, fits}
use Rattle.bits.proofs.Laws.{field_inner, field_split}
use Rattle.bits.proofs.Numbers.{numbers_length}
use Rattle.bits.proofs.Records.{numbers_append, record_at, fits_append}

-- the same field inside two equal ones
pub inner_same : (s t : List ℕ) (a b m x y : ℕ) → x + y ≤ m → field_of s a m ≡ field_of t b m → field_of s (a + x) y ≡ field_of t (b + x) y
inner_same s t a b m x y l e =
    let r = m - (x + y) in
    let k : m ≡ x + y + r = omega arith in
    field_inner s a x y r
    ∙ ap (λ (all : ℕ). all / 2 ^ r % 2 ^ y) (rw k at e)
    ∙ sym (field_inner t b x y r)

-- two fields, one behind the other, as one
pub joined_same : (s t : List ℕ) (a b m n : ℕ) → field_of s a m ≡ field_of t b m → field_of s (a + m) n ≡ field_of t (b + m) n → field_of s a (m + n) ≡ field_of t b (m + n)
joined_same s t a b m n e f = rw (field_split s a m n, field_split t b m n, e, f)

-- so many records read by some widths fit others, where each record does
pub fits_records : (vs ws s : List ℕ) → length vs ≡ length ws → (m at : ℕ) → ((i : ℕ) → i < m → fits ws (numbers_at vs s (at + total vs * i)) ≡ true)
    → fits (records m ws) (numbers_at (records m vs) s at) ≡ true
unfolding records fits
fits_records vs ws s e zero at f = refl
fits_records vs ws s e (suc m) at f =
    let here : at + total vs * 0 ≡ at = omega arith in
    let first = rw here at (f 0 (omega arith)) in
    let rest = fits_records vs ws s e m (at + total vs) (λ i l.
    let there : at + total vs * suc i ≡ at + total vs + total vs * i = omega arith in
    rw there at (f (suc i) (omega arith))) in
    rw (numbers_append vs (records m vs) s at)
    (fits_append (records m ws) (numbers_at (records m vs) s (at + total vs)) ws (numbers_at vs s at) (numbers_length vs s at ∙ e)
    ∙ rw (first, rest))

-- a record among m that are the same numbers
pub record_same : (vs ws s t : List ℕ) (m i a b at to : ℕ) → length vs ≡ length ws → i < m → numbers_at (records m vs) s a ≡ numbers_at (records m ws) t b
    → a + total vs * i ≡ at → b + total ws * i ≡ to
    → numbers_at vs s at ≡ numbers_at ws t to
record_same vs ws s t m i a b at to e l same here there =
    ap (numbers_at vs s) (sym here)
    ∙ sym (record_at vs s m i a l)
    ∙ ap (λ (k : ℕ). take k (drop (k * i) (numbers_at (records m vs) s a))) e
    ∙ ap (λ (xs : List ℕ). take (length ws) (drop (length ws * i) xs)) same
    ∙ record_at ws t m i b l
    ∙ ap (numbers_at ws t) there
