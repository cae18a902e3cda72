-- 'back and forth gives the same bytes': an accepted plan whose values fit is carried to an accepted plan, and from there to itself.
-- It stands on the laws of carried lists and of Check.
use mathlib.Core.Path.{◌≡◌, ◌∙◌, ap, sym}
use mathlib.Core.Bool.{true}
use mathlib.Core.List.{List}
use Prim.Native.Nat.{ℕ}
use lib.ListN.{get_or}
use Rattle.bits.specs.Field.{Bytes}
use Rattle.register.proofs.Logic.{T_eq, and_both}
use Rattle.plan.specs.Header.{header_of}
use Rattle.plan.specs.Check.{result, check_of, delays_stand, final_bits_zero}
use Rattle.plan.proofs.Accept.{playable, exact}
use Rattle.lists.specs.Lists.{lists_of, packed_plan}
use Rattle.pack.proofs.Inverted.{packs_again}
use Rattle.carrying.specs.Carrying.{carried_plan, values_fit}
use Rattle.carrying.proofs.Values.{Below, from_below, own_below, forgery_value}
use Rattle.carrying.proofs.Fitting.{carried_lists}
use Rattle.carrying.proofs.Alike as alike
use Rattle.carrying.proofs.Checked.{carried_checked}

-- two plans with the same lists have the same values
below_alike : (v w bits : ℕ) (s t : List ℕ) → lists_of v s ≡ lists_of w t → Below v bits s → Below w bits t
below_alike v w bits s t same b =
    let e = alike.header_alike v w s t same in
    record {
      initial = rw e b.initial;
      operations = λ i l. (let k = rw e at l in rw (e, alike.operation_alike v w s t same i k) (b.operations i k));
      forgeries = λ i l. (
          let k = rw e at l in
          let x = ap (λ (xs : List ℕ). get_or xs 3 0) (sym (alike.forgery_numbers_lem v w s t same i k)) in
          rw (e, forgery_value w t (header_of v s) i, x, ← forgery_value v s (header_of v s) i) (b.forgeries i k)
          );
    }

module _ (v w : ℕ) (s : List ℕ) (fit : values_fit v w s ≡ true) where
  t : List ℕ
  t = carried_plan v w s

  -- on the way back no value is too wide
  pub fits_back : values_fit w v (carried_plan v w s) ≡ true
  unfolding t
  fits_back = from_below w v t (below_alike v w v s t (sym (carried_lists v w s fit)) (own_below v s))

  module _ (m : ℕ) (accepted : check_of v s ≡ result m) where
    pub carried_accepted : check_of w (carried_plan v w s) ≡ result m
    carried_accepted =
        let A = playable v s m accepted in
        let ends = and_both (delays_stand v s (header_of v s)) (final_bits_zero v s (header_of v s)) (T_eq _ A.delays) in
        carried_checked v w s fit (record { size = exact v s A; final = ends.1 }) ∙ accepted

    pub back_and_forth : Bytes s → carried_plan w v (carried_plan v w s) ≡ s
    unfolding carried_plan
    back_and_forth bytes = ap (packed_plan v) (carried_lists v w s fit) ∙ packs_again v s m bytes accepted
