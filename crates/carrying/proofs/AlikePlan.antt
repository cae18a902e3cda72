-- Two plans with the same lists: the same servers are placed, the delays and the reads are the same.
-- It stands on the laws of their fields.
use mathlib.Core.Path.{◌≡◌, ap, sym}
use mathlib.Core.Bool.{◌&&◌}
use mathlib.Core.List.{List}
use Prim.Native.Nat.{ℕ, ◌*◌, ◌<◌}
use native.Mathlib.Omega.{arith}
use lib.Dec.{T, ltb, eqb, ltb→lt}
use Rattle.register.proofs.Logic.{and_l, and_r}
use Rattle.plan.specs.Header.{Header, header_of, moves, parties, placement_at}
use Rattle.plan.specs.Parts.{in_placement, operation_of, operations_of, reads_from, is_link}
use Rattle.plan.specs.Packed.{plan_of}
use Rattle.plan.specs.Shape.{Ranged}
use Rattle.plan.proofs.Ranges.{movement_below}
use Rattle.lists.specs.Lists.{lists_of}
use Rattle.carrying.proofs.Parts.{inner_same}
use Rattle.carrying.proofs.Choice.{and_when, cond_when, tab_same}
use Rattle.carrying.proofs.Alike as alike

module _ (v w : ℕ) (s t : List ℕ) (same : lists_of v s ≡ lists_of w t) where
  -- the header of both
  abbrev h : Header
  h = header_of v s

  pub operations_alike : operations_of w t h ≡ operations_of v s h
  unfolding operations_of
  operations_alike = tab_same h.operations (operation_of w t h) (operation_of v s h) (alike.operation_alike v w s t same)

  pub reads_alike : (plan_of w t).reads ≡ (plan_of v s).reads
  unfolding plan_of
  reads_alike = rw (alike.header_alike v w s t same) (ap reads_from operations_alike)

  pub bit_alike : (i b : ℕ) → i < moves h → b < 16 → in_placement w t h i b ≡ in_placement v s h i b
  unfolding in_placement
  bit_alike i b l k =
      ap (λ (x : ℕ). eqb x 1) (inner_same t s (placement_at w i) (placement_at v i) 16 b 1 (omega arith) (sym (alike.placement_alike v w s t same i l)))

  -- a move below H is one of those that have a placement
  move-below : Ranged h → (i : ℕ) → i * h.period < h.ticks → i < moves h
  unfolding moves
  move-below r i l = movement_below h.ticks i h.period (omega arith) l

  pub placed_alike : Ranged h → (i b : ℕ) → (plan_of w t).placed i b ≡ (plan_of v s).placed i b
  unfolding plan_of
  placed_alike r i b =
      rw (alike.header_alike v w s t same)
      (and_when (ltb (i * h.period) h.ticks) _ _ (λ p.
      and_when (ltb b h.n) _ _ (λ q.
      bit_alike i b (move-below r i (ltb→lt _ _ p)) (let l = ltb→lt b h.n q in omega arith))))

  pub plan_delay_alike : (c i j : ℕ) → (plan_of w t).delay c i j ≡ (plan_of v s).delay c i j
  unfolding plan_of
  plan_delay_alike c i j =
      rw (alike.header_alike v w s t same)
      (cond_when (ltb c h.ticks && (ltb i (parties h) && (ltb j (parties h) && is_link h.n i j))) _ _ 1 (λ p.
      let a : T (ltb c h.ticks) = search and_l in
      let b : T (ltb i (parties h)) = search (and_l, and_r) in
      let d : T (ltb j (parties h)) = search (and_l, and_r) in
      alike.delay_alike v w s t same c i j (ltb→lt _ _ a) (ltb→lt _ _ b) (ltb→lt _ _ d)))
