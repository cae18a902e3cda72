-- The values of a plan: each is below 2 to its width, so those of the narrow form fit the wide one.
-- It stands on the laws of bit fields and of stamped values.
use mathlib.Core.Path.{◌≡◌}
use mathlib.Core.Bool.{Bool, true}
use mathlib.Core.List.{List}
use Prim.Native.Nat.{ℕ, ◌+◌, ◌^◌, ◌≤◌, ◌<◌}
use native.Mathlib.Nat.{lt_of_lt_of_le}
use lib.Dec.{ltb}
use lib.Pow.{pow_mono}
use borrow.Author.Tests.{lt-ltb, ltb-true}
use Rattle.bits.specs.Field.{field_of}
use Rattle.bits.proofs.Laws.{field_lt}
use Rattle.register.specs.Lists.{all_up_to}
use Rattle.register.specs.Plan.{value_of, number_of}
use Rattle.register.proofs.Logic.{and_both}
use Rattle.register.proofs.Stamped.{value_below, value_stamped, number_stamped}
use Rattle.plan.specs.Header.{Header, header_of, operation_at, forgery_at}
use Rattle.plan.specs.Parts.{operation_of, forgery_of}
use Rattle.plan.proofs.Laws.{all_at, all_from}
use Rattle.carrying.specs.Carrying.{values_fit}

-- every value is below 2 ^ w
pub record Below (v w : ℕ) (s : List ℕ) : Type 0 where
  pub initial : (header_of v s).initial < 2 ^ w
  pub operations : (i : ℕ) → i < (header_of v s).operations → (operation_of v s (header_of v s) i).value < 2 ^ w
  pub forgeries : (i : ℕ) → i < (header_of v s).forgeries → value_of v (forgery_of v s (header_of v s) i).pair < 2 ^ w

-- the value and the number of a forgery are fields
module _ (v : ℕ) (s : List ℕ) (h : Header) (i : ℕ) where
  pub forgery_value : value_of v (forgery_of v s h i).pair ≡ field_of s (forgery_at v h i + 7 + 4 + 5) v
  unfolding forgery_of
  forgery_value = value_stamped v _ _ (field_lt s (forgery_at v h i + 7 + 4 + 5) v)

  pub forgery_number : number_of v (forgery_of v s h i).pair ≡ field_of s (forgery_at v h i + 7 + 4 + 5 + v) 8
  unfolding forgery_of
  forgery_number = number_stamped v _ _ (field_lt s (forgery_at v h i + 7 + 4 + 5) v)

module _ (v w : ℕ) (s : List ℕ) where
  h : Header
  h = header_of v s

  operation-fits : ℕ → Bool
  operation-fits i = ltb (operation_of v s h i).value (2 ^ w)

  forgery-fits : ℕ → Bool
  forgery-fits i = ltb (value_of v (forgery_of v s h i).pair) (2 ^ w)

  pub below : values_fit v w s ≡ true → Below v w s
  unfolding values_fit h operation-fits forgery-fits
  below e =
      let b = and_both (ltb h.initial (2 ^ w)) _ e in
      let c = and_both (all_up_to h.operations operation-fits) (all_up_to h.forgeries forgery-fits) b.1 in
      record {
        initial = ltb-true _ _ b.0;
        operations = λ i l. ltb-true _ _ (all_at operation-fits h.operations i l c.0);
        forgeries = λ i l. ltb-true _ _ (all_at forgery-fits h.forgeries i l c.1);
      }

  pub from_below : Below v w s → values_fit v w s ≡ true
  unfolding values_fit h operation-fits forgery-fits
  from_below b =
      rw (
        lt-ltb _ _ b.initial,
        all_from operation-fits h.operations (λ i l. lt-ltb _ _ (b.operations i l)),
        all_from forgery-fits h.forgeries (λ i l. lt-ltb _ _ (b.forgeries i l)),
      )

-- each value is a field of v bits
pub own_below : (v : ℕ) (s : List ℕ) → Below v v s
unfolding header_of operation_of
own_below v s =
    let h = header_of v s in
    record {
      initial = field_lt s 28 v;
      operations = λ i l. field_lt s (operation_at v h i + 7 + 3) v;
      forgeries = λ i l. value_below v (forgery_of v s h i).pair;
    }

-- so it fits the wider form
pub wider_fits : (v w : ℕ) (s : List ℕ) → v ≤ w → values_fit v w s ≡ true
wider_fits v w s l =
    let b = own_below v s in
    let wider = pow_mono l in
    from_below v w s (record {
      initial = lt_of_lt_of_le b.initial wider;
      operations = λ i k. lt_of_lt_of_le (b.operations i k) wider;
      forgeries = λ i k. lt_of_lt_of_le (b.forgeries i k) wider;
    })
