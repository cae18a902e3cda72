-- Two plans with the same lists say the same, but for the form of the stamped values.
-- It stands on the laws of their fields.
use mathlib.Core.Path.{◌≡◌, ◌∙◌, refl, ap, sym}
use mathlib.Core.Bool.{Bool, true, false, cond}
use mathlib.Core.Logic.{inl, inr}
use mathlib.Core.List.{List, [], ◌∷◌, map}
use Prim.Native.Nat.{ℕ, ◌+◌, ◌^◌, ◌<◌}
use native.Mathlib.Omega.{arith}
use lib.Dec.{eqb}
use Rattle.bits.proofs.Laws.{field_lt}
use Rattle.register.specs.{Lists.In, Plan.Write, Plan.stamped}
use Rattle.register.proofs.Lists.{in_tab_from}
use Rattle.plan.specs.Header.{Header, header_of, forgery_at}
use Rattle.plan.specs.Parts.{Operation, operation_of, operations_of, forgery_of, writes_from}
use Rattle.plan.specs.{Packed.plan_of, Shape.Ranged}
use Rattle.lists.specs.Lists.{lists_of}
use Rattle.renaming.specs.Renaming.{Renamed, renamed_write, renamed_forgery}
use Rattle.carrying.specs.Carrying.{carried_pair}
use Rattle.carrying.proofs.{Choice.tab_same, Choice.map_tab, Values.own_below, Pairs.pair_carried}
use Rattle.carrying.proofs.Alike as alike
use Rattle.carrying.proofs.AlikePlan as alike-plan

module _ (v w : ℕ) where
  φ : ℕ → ℕ
  φ = carried_pair v w

  -- one operation more: a write, or a read
  write_step : (b : Bool) (x y : Write) (xs zs : List Write) (ys us : List Write) → x ≡ renamed_write φ y → xs ≡ map (renamed_write φ) ys → zs ≡ map (renamed_write φ) us
      → cond b (x ∷ xs) zs ≡ map (renamed_write φ) (cond b (y ∷ ys) us)
  write_step true x y xs zs ys us a b c = rw (a, b)
  write_step false x y xs zs ys us a b c = c

  writes_renamed : (os : List Operation) → ((o : Operation) → In o os → o.value < 2 ^ v) → (number : ℕ)
      → writes_from w number os ≡ map (renamed_write φ) (writes_from v number os)
  unfolding writes_from φ
  writes_renamed [] f number = refl
  writes_renamed (o ∷ os) f number =
      let pair : stamped w o.value number ≡ φ (stamped v o.value number) = sym (pair_carried v w o.value number (f o (inl refl))) in
      write_step (eqb o.party 0) _ _ _ _ _ _ (rw pair) (writes_renamed os (λ p i. f p (inr i)) (number + 1)) (writes_renamed os (λ p i. f p (inr i)) number)

  operation-below : (s : List ℕ) (o : Operation) → In o (operations_of v s (header_of v s)) → o.value < 2 ^ v
  unfolding operations_of
  operation-below s o i =
      let h = header_of v s in
      let (j, l, e) = in_tab_from o 0 h.operations (operation_of v s h) i in
      rw e ((own_below v s).operations j (omega arith))

  module _ (s t : List ℕ) (same : lists_of v s ≡ lists_of w t) where
    h : Header
    h = header_of v s

    forgery-renamed : (i : ℕ) → i < h.forgeries → forgery_of w t h i ≡ renamed_forgery φ (forgery_of v s h i)
    unfolding forgery_of h φ
    forgery-renamed i l =
        alike.forgery_alike v w s t same i l
        ∙ rw (pair_carried v w _ _ (field_lt s (forgery_at v h i + 7 + 4 + 5) v))

    pub plan_renamed : Ranged (header_of v s) → Renamed (carried_pair v w) (plan_of v s) (plan_of w t)
    unfolding plan_of h φ
    plan_renamed r =
        let e = alike.header_alike v w s t same in
        record {
          n = ap (λ (x : Header). x.n) e;
          f = ap (λ (x : Header). x.f) e;
          delta = ap (λ (x : Header). x.delta) e;
          period = ap (λ (x : Header). x.period) e;
          depth = refl;
          initial = rw (e, pair_carried v w h.initial 0 (own_below v s).initial);
          placed = alike-plan.placed_alike v w s t same r;
          writes = rw (e, alike-plan.operations_alike v w s t same) (writes_renamed (operations_of v s h) (operation-below s) 1);
          reads = alike-plan.reads_alike v w s t same;
          forged =
              rw e (tab_same h.forgeries (forgery_of w t h) (λ i. renamed_forgery φ (forgery_of v s h i)) forgery-renamed
              ∙ sym (map_tab (renamed_forgery φ) h.forgeries (forgery_of v s h)));
          delay = alike-plan.plan_delay_alike v w s t same;
        }
