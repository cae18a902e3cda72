-- The value and the number of an answer that was read are those of its pair.
-- It stands on the laws of stamped values.
use mathlib.Core.Path.{◌≡◌, sym, ap, ◌∙◌}
use mathlib.Core.List.{List}
use Prim.Native.Nat.{ℕ}
use Rattle.register.specs.Plan.{value_of, number_of}
use Rattle.register.proofs.Stamped.{value_stamped, number_stamped}
use Rattle.answers.specs.Answers.{pair_in}
use Rattle.answers.specs.Parts.{IsAnswer}
use Rattle.answers.specs.declared.Answer.{Answer}

module _ {w : ℕ} {a : List ℕ} {i : ℕ} {r : Answer} (X : IsAnswer w a i r) where
  pub value_is : r.value ≡ value_of w (pair_in w a i)
  value_is = sym (value_stamped w r.value r.number X.value_hi) ∙ ap (value_of w) X.pair

  pub number_is : r.number ≡ number_of w (pair_in w a i)
  number_is = sym (number_stamped w r.value r.number X.value_hi) ∙ ap (number_of w) X.pair
