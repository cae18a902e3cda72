-- Two plans with the same lists: Check's test of the forgeries says the same of both.
-- 'Forgeries rise at their form's width': tick, sender and receiver come first, then value and number, so they rise alike at every width.
use mathlib.Core.Path.{◌≡◌, ◌∙◌, refl, ap, sym}
use mathlib.Core.Bool.{Bool, ◌&&◌, ◌||◌}
use mathlib.Core.List.{List}
use Prim.Native.Nat.{ℕ, ◌+◌, ◌*◌, ◌-◌, ◌^◌, ◌<◌}
use native.Mathlib.Omega.{arith}
use lib.Dec.{leb, ltb, eqb}
use lib.ListN.{get_or}
use Rattle.bits.specs.{Field.field_of, Layout.numbers_at}
use Rattle.bits.proofs.Laws.{field_lt, field_split}
use Rattle.register.specs.{Lists.any, Plan.Read, Plan.Forgery}
use Rattle.plan.specs.Header.{Header, header_of, forgery_bits, forgery_at}
use Rattle.plan.specs.Parts.{forgery_of}
use Rattle.plan.specs.{Widths.forgery_widths, Packed.plan_of, Shape.Ranged}
use Rattle.plan.specs.Check.{read_open, forgery_rises, forgery_stands, forgeries_stand}
use Rattle.plan.proofs.Laws.{all_same}
use Rattle.lists.specs.Lists.{lists_of}
use Rattle.carrying.proofs.{Order.same_order, Parts.joined_same}
use Rattle.carrying.proofs.Alike as alike
use Rattle.carrying.proofs.AlikePlan as alike-plan

-- tick, sender and receiver above value and number
forgery_parts : (v : ℕ) (s : List ℕ) (at : ℕ) → field_of s at (forgery_bits v) ≡ field_of s at 16 * 2 ^ (v + 8) + field_of s (at + 16) (v + 8)
forgery_parts v s at =
    let e : forgery_bits v ≡ 16 + (v + 8) = omega arith in
    rw e (field_split s at 16 (v + 8))

-- whether a read is open for a forgery: by the servers, δ, the reads, and the forgery's tick and receiver
open_in : ℕ → ℕ → List Read → ℕ → ℕ → Bool
open_in n delta reads at to = any (λ (r : Read). eqb (n + r.reader) to && (leb r.begun at && ltb at (r.begun + 2 * delta))) reads

open_is : (w : ℕ) (s : List ℕ) (h : Header) (g : Forgery)
    → read_open w s h g ≡ open_in (header_of w s).n (header_of w s).delta (plan_of w s).reads g.at g.to
unfolding read_open plan_of open_in
open_is w s h g = refl

module _ (v w : ℕ) (s t : List ℕ) (same : lists_of v s ≡ lists_of w t) where
  -- the header of both
  abbrev h : Header
  h = header_of v s

  -- number j of forgery i
  number-alike : (i j : ℕ) → i < h.forgeries
      → get_or (numbers_at (forgery_widths w) t (forgery_at w h i)) j 0 ≡ get_or (numbers_at (forgery_widths v) s (forgery_at v h i)) j 0
  number-alike i j l = ap (λ (xs : List ℕ). get_or xs j 0) (sym (alike.forgery_numbers_lem v w s t same i l))

  high-alike : (i : ℕ) → i < h.forgeries → field_of t (forgery_at w h i) 16 ≡ field_of s (forgery_at v h i) 16
  high-alike i l =
      let a = forgery_at w h i in
      let b = forgery_at v h i in
      joined_same t s a b 7 9 (number-alike i 0 l) (joined_same t s (a + 7) (b + 7) 4 5 (number-alike i 1 l) (number-alike i 2 l))

  low_alike : (i : ℕ) → i < h.forgeries → field_of t (forgery_at w h i + 16) (w + 8) ≡ field_of s (forgery_at v h i + 16) (v + 8)
  low_alike i l =
      let a : forgery_at w h i + 16 ≡ forgery_at w h i + 7 + 4 + 5 = omega arith in
      let b : forgery_at v h i + 16 ≡ forgery_at v h i + 7 + 4 + 5 = omega arith in
      rw (a, b, field_split t (forgery_at w h i + 7 + 4 + 5) w 8, field_split s (forgery_at v h i + 7 + 4 + 5) v 8, number-alike i 3 l, number-alike i 4 l)

  order_alike : (i j : ℕ) → i < h.forgeries → j < h.forgeries
      → ltb (field_of t (forgery_at w h i) (forgery_bits w)) (field_of t (forgery_at w h j) (forgery_bits w))
      ≡ ltb (field_of s (forgery_at v h i) (forgery_bits v)) (field_of s (forgery_at v h j) (forgery_bits v))
  order_alike i j k l =
      let x = field_lt t (forgery_at w h i + 16) (w + 8) in
      let y = field_lt t (forgery_at w h j + 16) (w + 8) in
      rw (
        forgery_parts w t (forgery_at w h i),
        forgery_parts w t (forgery_at w h j),
        forgery_parts v s (forgery_at v h i),
        forgery_parts v s (forgery_at v h j),
        high-alike i k,
        high-alike j l,
        low_alike i k,
        low_alike j l,
      )
      (same_order (2 ^ (w + 8)) (2 ^ (v + 8)) (field_of s (forgery_at v h i) 16) (field_of s (forgery_at v h i + 16) (v + 8))
      (field_of s (forgery_at v h j) 16) (field_of s (forgery_at v h j + 16) (v + 8))
      (rw (low_alike i k) at x) (rw (low_alike j l) at y) (field_lt s (forgery_at v h i + 16) (v + 8)) (field_lt s (forgery_at v h j + 16) (v + 8)))

  rises-alike : (i : ℕ) → i < h.forgeries → forgery_rises w t h i ≡ forgery_rises v s h i
  unfolding forgery_rises
  rises-alike i l = ap (λ (b : Bool). eqb i 0 || b) (order_alike (i - 1) i (omega arith) l)

  open-alike : (g k : Forgery) → g.at ≡ k.at → g.to ≡ k.to → read_open w t h g ≡ read_open v s h k
  open-alike g k a b = open_is w t h g ∙ rw (alike.header_alike v w s t same, alike-plan.reads_alike v w s t same, a, b) (sym (open_is v s h k))

  forgery-test : Ranged h → (i : ℕ) → i < h.forgeries → forgery_stands w t h i ≡ forgery_stands v s h i
  unfolding forgery_stands forgery_of
  forgery-test r i l =
      let a = number-alike i 0 l in
      let b = number-alike i 1 l in
      let c = number-alike i 2 l in
      rw (open-alike (forgery_of w t h i) (forgery_of v s h i) a c, rises-alike i l, a, b, c, alike-plan.placed_alike v w s t same r)

  pub forgeries_test : Ranged h → forgeries_stand w t h ≡ forgeries_stand v s h
  unfolding forgeries_stand
  forgeries_test r = all_same (forgery_stands w t h) (forgery_stands v s h) h.forgeries (forgery-test r)
