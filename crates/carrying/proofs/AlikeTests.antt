-- Two plans with the same lists: each part's test of Check says the same of both.
-- It stands on the laws of their fields and of the plans that they say.
use mathlib.Core.Path.{◌≡◌, ap, sym}
use mathlib.Core.Bool.{Bool, not, ◌||◌}
use mathlib.Core.List.{List}
use Prim.Native.Nat.{ℕ, ◌-◌, ◌<◌}
use native.Mathlib.Omega.{arith}
use lib.Dec.{ltb, eqb}
use lib.ListN.{get_or}
use Rattle.bits.specs.Field.{field_of}
use Rattle.register.proofs.Counting.{count_cong}
use Rattle.plan.specs.Header.{Header, header_of, moves, parties, placement_at, operation_at, key_bits}
use Rattle.plan.specs.Parts.{Operation, in_placement, operation_of}
use Rattle.plan.specs.Check as check
use Rattle.plan.specs.Shape.{Ranged}
use Rattle.plan.proofs.Laws.{all_same}
use Rattle.lists.specs.Lists.{lists_of}
use Rattle.carrying.proofs.Parts.{inner_same, joined_same}
use Rattle.carrying.proofs.Alike as alike
use Rattle.carrying.proofs.AlikePlan.{bit_alike}

module _ (v w : ℕ) (s t : List ℕ) (same : lists_of v s ≡ lists_of w t) where
  -- the header of both
  abbrev h : Header
  h = header_of v s

  placement-test : Ranged h → (i : ℕ) → i < moves h → check.placement_stands w t h i ≡ check.placement_stands v s h i
  unfolding check.placement_stands
  placement-test r i l =
      let ones = count_cong (in_placement w t h i) (in_placement v s h i) h.n (λ b k. bit_alike v w s t same i b l (omega arith)) in
      let rest = inner_same t s (placement_at w i) (placement_at v i) 16 h.n (16 - h.n) (omega arith) (sym (alike.placement_alike v w s t same i l)) in
      rw (ones, rest)

  pub placements_test : Ranged h → check.placements_stand w t h ≡ check.placements_stand v s h
  unfolding check.placements_stand
  placements_test r = all_same (check.placement_stands w t h) (check.placement_stands v s h) (moves h) (placement-test r)

  -- the tick and the party of an operation, as one number
  key-alike : (i : ℕ) → i < h.operations → field_of t (operation_at w h i) (key_bits w) ≡ field_of s (operation_at v h i) (key_bits v)
  key-alike i l =
      let e = alike.operation_numbers_lem v w s t same i l in
      joined_same t s (operation_at w h i) (operation_at v h i) 7 3
      (ap (λ (xs : List ℕ). get_or xs 0 0) (sym e)) (ap (λ (xs : List ℕ). get_or xs 1 0) (sym e))

  rises-alike : (i : ℕ) → i < h.operations → check.operation_rises w t h i ≡ check.operation_rises v s h i
  unfolding check.operation_rises
  rises-alike i l = rw (key-alike (i - 1) (omega arith), key-alike i l)

  waits-alike : (i : ℕ) → i < h.operations → check.operation_waits w t h i ≡ check.operation_waits v s h i
  unfolding check.operation_waits
  waits-alike i l =
      let free : Operation → Operation → Bool = λ o p. not (eqb p.party o.party) || ltb (check.end_of h p) o.at in
      rw (alike.operation_alike v w s t same i l)
      (all_same (λ j. free (operation_of v s h i) (operation_of w t h j)) (λ j. free (operation_of v s h i) (operation_of v s h j)) i (λ j k.
      ap (free (operation_of v s h i)) (alike.operation_alike v w s t same j (omega arith))))

  operation-test : (i : ℕ) → i < h.operations → check.operation_stands w t h i ≡ check.operation_stands v s h i
  unfolding check.operation_stands
  operation-test i l = rw (alike.operation_alike v w s t same i l, rises-alike i l, waits-alike i l)

  pub operations_test : check.operations_stand w t h ≡ check.operations_stand v s h
  unfolding check.operations_stand
  operations_test = all_same (check.operation_stands w t h) (check.operation_stands v s h) h.operations operation-test

  delay-test : (c i j : ℕ) → c < h.ticks → i < parties h → j < parties h → check.delay_stands w t h c i j ≡ check.delay_stands v s h c i j
  unfolding check.delay_stands
  delay-test c i j a b d = rw (alike.delay_alike v w s t same c i j a b d)

  pub delays_test : check.delays_stand w t h ≡ check.delays_stand v s h
  unfolding check.delays_stand
  delays_test =
      all_same _ _ h.ticks (λ c a.
      all_same _ _ (parties h) (λ i b.
      all_same (check.delay_stands w t h c i) (check.delay_stands v s h c i) (parties h) (λ j d. delay-test c i j a b d)))
