-- The delays of a tick in their order, two to a byte, are those of its rows.
-- It stands on the definitions of the plan's parts.
use mathlib.Core.Path.{◌≡◌, refl, sym, ◌∙◌}
use mathlib.Core.Bool.{Bool, true, false, ◌&&◌, cond, and_assoc, and_comm, and-false}
use mathlib.Core.List.{List}
use Prim.Native.Nat.{ℕ, zero, suc, ◌+◌, ◌*◌, ◌-◌, ◌/◌, ◌%◌, ◌^◌, ◌≤◌, ◌<◌}
use native.Mathlib.Nat.{add-zero, add-suc, zero-mul, suc-mul}
use native.Mathlib.Numerals.{add-one}
use native.Mathlib.Decide.{ℕ_discrete}
use native.Mathlib.Omega.{arith}
use borrow.Author.Tests.{le-leb, eq-eqb, ne_eqb}
use lib.Dec.{leb, eqb}
use lib.ListN.{length, get_or, set}
use lib.Seq.{get_or-set_same, get_or-set_other}
use lib.Arith.{digits_div, digits_mod}
use Rattle.bits.proofs.Laws.{field_byte, bytes_more, field_cut, field_first, field_last}
use Rattle.bits.specs.Field.{field_of}
use Rattle.register.specs.Lists.{one_if, all_up_to}
use Rattle.register.proofs.Counting.{one_if_le}
use Rattle.plan.specs.{Header.Header, Header.parties, Parts.is_link}
use Rattle.plan.proofs.Laws.{all_same}
use Rattle.delays.specs.Steps.{delay_allowed, link_stands, row_stands, tick_stands, link_mark, need_of, Needed, bit_stands, order_stands, first_stand}

-- a delay by its link's bit
bit_cases : (bit delta d : ℕ) → bit ≤ 1 → d ≤ 15 → Dec (bit ≡ 1) → Dec (d ≡ 0)
    → eqb ((d + 15) / 16) bit && leb d delta ≡ cond (eqb bit 1) (leb 1 d && leb d delta) (eqb d 0)
bit_cases bit delta d b h (yes e) (yes z) = rw (e, z) refl
bit_cases bit delta d b h (yes e) (no z) = rw (e, le-leb 1 d (omega arith), eq-eqb ((d + 15) / 16) 1 (omega arith)) refl
bit_cases bit delta d b h (no e) (yes z) = let o : bit ≡ 0 = omega arith in rw (o, z, le-leb 0 delta (omega arith)) refl
bit_cases bit delta d b h (no e) (no z) = let o : bit ≡ 0 = omega arith in rw (o, ne_eqb ((d + 15) / 16) 0 (λ q. omega arith), ne_eqb d 0 z) refl

bit_stands_lem : (bit delta d : ℕ) → bit ≤ 1 → d ≤ 15 → eqb ((d + 15) / 16) bit && leb d delta ≡ bit_stands bit delta d
unfolding bit_stands
bit_stands_lem bit delta d b h = bit_cases bit delta d b h (ℕ_discrete bit 1) (ℕ_discrete d 0)

-- both nibbles at once
nibbles_cases : (a b need : ℕ) → b < 16 → Dec (a ≡ need / 16) → Dec (b ≡ need % 16) → eqb (a * 16 + b) need ≡ eqb a (need / 16) && eqb b (need % 16)
nibbles_cases a b need h (yes e) (yes f) = rw (eq-eqb a (need / 16) e, eq-eqb b (need % 16) f, eq-eqb (a * 16 + b) need (omega (arith, e, f))) refl
nibbles_cases a b need h (yes e) (no f) = rw (eq-eqb a (need / 16) e, ne_eqb b (need % 16) f, ne_eqb (a * 16 + b) need (λ q. f (omega (arith, q)))) refl
nibbles_cases a b need h (no e) d = rw (ne_eqb a (need / 16) e, ne_eqb (a * 16 + b) need (λ q. e (omega (arith, q)))) refl

and_swap : (p q l h : Bool) → ((p && q) && l) && h ≡ (q && l) && (p && h)
and_swap true true l h = refl
and_swap true false l h = refl
and_swap false true l h = sym (and-false l)
and_swap false false l h = refl

pub byte_stands : (need delta x : ℕ) → need / 16 ≤ 1 → need % 16 ≤ 1 → x < 256
    → (eqb ((x / 16 + 15) / 16 * 16 + (x % 16 + 15) / 16) need && leb (x % 16) delta) && leb (x / 16) delta
    ≡ bit_stands (need % 16) delta (x % 16) && bit_stands (need / 16) delta (x / 16)
byte_stands need delta x n m h =
    let a : ℕ = (x / 16 + 15) / 16 in
    let b : ℕ = (x % 16 + 15) / 16 in
    rw (
      nibbles_cases a b need (omega arith) (ℕ_discrete a (need / 16)) (ℕ_discrete b (need % 16)),
      ← bit_stands_lem (need % 16) delta (x % 16) m (omega arith),
      ← bit_stands_lem (need / 16) delta (x / 16) n (omega arith),
    )
    (and_swap (eqb a (need / 16)) (eqb b (need % 16)) (leb (x % 16) delta) (leb (x / 16) delta))

pub link_mark_few : (n p q : ℕ) → link_mark n p q ≤ 1
unfolding link_mark
link_mark_few n p q = one_if_le (is_link n (q / p) (q % p))

one_if_cond : (b x y : Bool) → cond (eqb (one_if b) 1) x y ≡ cond b x y
one_if_cond true x y = refl
one_if_cond false x y = refl

pub link_allowed : (h : Header) (q d : ℕ) → bit_stands (link_mark h.n (parties h) q) h.delta d ≡ delay_allowed h (q / parties h) (q % parties h) d
unfolding bit_stands link_mark
link_allowed h q d = one_if_cond (is_link h.n (q / parties h) (q % parties h)) _ _

pub need_high : (n p k : ℕ) → need_of n p k / 16 ≡ link_mark n p (2 * k)
unfolding need_of
need_high n p k = let a = link_mark_few n p (2 * k) in let b = link_mark_few n p (2 * k + 1) in omega (arith, a, b)

pub need_low : (n p k : ℕ) → need_of n p k % 16 ≡ link_mark n p (2 * k + 1)
unfolding need_of
need_low n p k = let a = link_mark_few n p (2 * k) in let b = link_mark_few n p (2 * k + 1) in omega (arith, a, b)

all_plus : (g : ℕ → Bool) (a b : ℕ) → all_up_to (a + b) g ≡ all_up_to b (λ j. g (a + j)) && all_up_to a g
unfolding all_up_to
all_plus g a zero = rw add-zero refl
all_plus g a (suc b) = rw (add-suc, all_plus g a b) (sym (and_assoc (g (a + b)) (all_up_to b (λ j. g (a + j))) (all_up_to a g)))

-- rows of p, one after the other
flat_rows : (g : ℕ → Bool) (f : ℕ → ℕ → Bool) (p : ℕ) → ((i j : ℕ) → j < p → g (i * p + j) ≡ f i j) → (a : ℕ) → all_up_to (a * p) g ≡ all_up_to a (λ i. all_up_to p (f i))
unfolding all_up_to
flat_rows g f p e zero = rw zero-mul refl
flat_rows g f p e (suc a) =
    rw (suc-mul, all_plus g (a * p) p, flat_rows g f p e a, all_same (λ j. g (a * p + j)) (f a) p (λ j l. e a j l)) refl

module _ (s : List ℕ) (h : Header) (at : ℕ) where
  order_row : (i j : ℕ) → j < parties h → order_stands s h at (i * parties h + j) ≡ link_stands s h (at + 4 * (i * parties h)) i j
  order_row i j l =
      let e : at + 4 * (i * parties h + j) ≡ at + 4 * (i * parties h) + 4 * j = omega arith in
      rw (digits_div i l, digits_mod i l, e) refl

  pub tick_first : first_stand s h at (parties h * parties h) ≡ tick_stands s h at
  unfolding first_stand tick_stands row_stands
  tick_first = flat_rows (order_stands s h at) (λ i. link_stands s h (at + 4 * (i * parties h)) i) (parties h) order_row (parties h)

  pub first_none : first_stand s h at (2 * 0) ≡ true
  unfolding first_stand all_up_to
  first_none = refl

  pub first_more : (m : ℕ) → first_stand s h at (m + 1) ≡ first_stand s h at m && order_stands s h at m
  unfolding first_stand all_up_to
  first_more m = rw add-one (and_comm (order_stands s h at m) (all_up_to m (order_stands s h at)))

  pub pair_more : (k : ℕ) → first_stand s h at (2 * (k + 1)) ≡ first_stand s h at (2 * k) && (order_stands s h at (2 * k + 1) && order_stands s h at (2 * k))
  pair_more k =
      let e : 2 * (k + 1) ≡ 2 * k + 1 + 1 = omega arith in
      let last = and_comm (order_stands s h at (2 * k)) (order_stands s h at (2 * k + 1)) in
      rw (e, first_more (2 * k + 1), first_more (2 * k), ← last) (and_assoc (first_stand s h at (2 * k)) (order_stands s h at (2 * k)) (order_stands s h at (2 * k + 1)))

-- eight bits of two bytes
byte_two : (s : List ℕ) (at : ℕ) → get_or s (at / 8) 0 < 256 → get_or s (at / 8 + 1) 0 < 256
    → (get_or s (at / 8) 0 * 256 + get_or s (at / 8 + 1) 0) / 2 ^ (8 - at % 8) % 256 ≡ field_of s at 8
byte_two s at h g =
    let e : 8 - at % 8 ≡ 8 * 2 - at % 8 - 8 = omega arith in
    rw (e, ← field_byte s (at / 8) h, ← bytes_more s (at / 8) 1 g) (field_cut s at 8 2 (omega arith))

-- byte k from bit `at` on
pub byte_at : (s : List ℕ) (at k : ℕ) → get_or s (at / 8 + k) 0 < 256 → get_or s (at / 8 + k + 1) 0 < 256
    → (get_or s (at / 8 + k) 0 * 256 + get_or s (at / 8 + k + 1) 0) / 2 ^ (8 - at % 8) % 256 ≡ field_of s (at + 8 * k) 8
byte_at s at k h g =
    let d : at / 8 + k ≡ (at + 8 * k) / 8 = omega arith in
    let m : at % 8 ≡ (at + 8 * k) % 8 = omega arith in
    rw (d, m) (byte_two s (at + 8 * k) (rw d at h) (rw d at g))

-- the byte's test is that of its two delays
pub byte_pair : (s : List ℕ) (h : Header) (at k x need : ℕ) → x ≡ field_of s (at + 8 * k) 8 → need ≡ need_of h.n (parties h) k
    → bit_stands (need % 16) h.delta (x % 16) && bit_stands (need / 16) h.delta (x / 16) ≡ order_stands s h at (2 * k + 1) && order_stands s h at (2 * k)
byte_pair s h at k x need ex en =
    let a : at + 4 * (2 * k) ≡ at + 8 * k = omega arith in
    let b : at + 4 * (2 * k + 1) ≡ at + 8 * k + 4 = omega arith in
    rw (ex, en, need_high, need_low, link_allowed h (2 * k + 1), link_allowed h (2 * k), a, b, field_first s (at + 8 * k) 4 4, field_last s (at + 8 * k) 4 4) refl

-- one entry more
pub needed_more : (n p k v : ℕ) (r : List ℕ) → Needed n p k r → k < length r → v ≡ need_of n p k → Needed n p (k + 1) (set r k v)
needed_more n p k v r f l e m b = go (ℕ_discrete m k)
  where
    go : Dec (m ≡ k) → get_or (set r k v) m 0 ≡ need_of n p m
    go (yes q) = rw q (get_or-set_same r k v 0 l ∙ e)
    go (no q) = get_or-set_other r k m v 0 q ∙ f m (omega (arith, b, q))
