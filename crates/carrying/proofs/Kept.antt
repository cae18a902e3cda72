-- Two plans with the same lists keep every field; so does a carried plan.
-- It stands on the laws of their fields.
use mathlib.Core.Path.{◌≡◌, ◌∙◌, ap, sym}
use mathlib.Core.Bool.{true}
use mathlib.Core.List.{List}
use Prim.Native.Nat.{ℕ, ◌<◌}
use lib.ListN.{get_or}
use Rattle.plan.specs.Header.{header_of}
use Rattle.plan.specs.Parts.{forgery_of}
use Rattle.lists.specs.Lists.{lists_of}
use Rattle.carrying.specs.Carrying.{carried_plan, values_fit}
use Rattle.carrying.specs.Kept.{KeptForgery, Kept}
use Rattle.carrying.proofs.Values.{forgery_value, forgery_number}
use Rattle.carrying.proofs.Fitting.{carried_lists}
use Rattle.carrying.proofs.Alike as alike
use Rattle.carrying.proofs.AlikePlan.{bit_alike}

module _ (v w : ℕ) (s t : List ℕ) (same : lists_of v s ≡ lists_of w t) where
  forgery-kept : (i : ℕ) → i < (header_of v s).forgeries → KeptForgery v w (forgery_of v s (header_of v s) i) (forgery_of w t (header_of v s) i)
  unfolding forgery_of
  forgery-kept i l =
      let h = header_of v s in
      let e = sym (alike.forgery_numbers_lem v w s t same i l) in
      record {
        at = ap (λ (xs : List ℕ). get_or xs 0 0) e;
        from = ap (λ (xs : List ℕ). get_or xs 1 0) e;
        to = ap (λ (xs : List ℕ). get_or xs 2 0) e;
        value = forgery_value w t h i ∙ ap (λ (xs : List ℕ). get_or xs 3 0) e ∙ sym (forgery_value v s h i);
        number = forgery_number w t h i ∙ ap (λ (xs : List ℕ). get_or xs 4 0) e ∙ sym (forgery_number v s h i);
      }

  all-kept : Kept v w s t
  all-kept =
      let e = alike.header_alike v w s t same in
      record {
        header = e;
        placements = λ i b l k. rw e (bit_alike v w s t same i b l k);
        operations = λ i l. rw e (alike.operation_alike v w s t same i l);
        forgeries = λ i l. rw e (forgery-kept i l);
        delays = λ c i j a b d. rw e (alike.delay_alike v w s t same c i j a b d);
      }

pub carried_kept : (v w : ℕ) (s : List ℕ) → values_fit v w s ≡ true → Kept v w s (carried_plan v w s)
carried_kept v w s fit = all-kept v w s (carried_plan v w s) (sym (carried_lists v w s fit))
