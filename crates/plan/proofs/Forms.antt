-- What Check in a form says of the form and of Check at its width.
-- It stands on the law of a chain that passed its first test.
use mathlib.Core.Path.{◌≡◌, refl, sym, ◌∙◌}
use mathlib.Core.Bool.{Bool, true, false, cond, false≢true}
use mathlib.Core.List.{List}
use Prim.Native.Nat.{ℕ, zero, suc, ◌≤◌}
use native.Mathlib.Omega.{arith}
use lib.Dec.{eqb}
use borrow.Author.Tests.{ne_eqb}
use Rattle.register.proofs.Logic.{T_eq}
use Rattle.plan.specs.Form.{form_one, form_two, is_form, width_of, most_width}
use Rattle.plan.specs.Check.{result, check_of, check_in}
use Rattle.plan.proofs.Tests.{passed}

-- one or two, and accepted at its width
pub form_passed : (form : ℕ) (s : List ℕ) (m : ℕ) → check_in form s ≡ result m → (is_form form ≡ true) × (check_of (width_of form) s ≡ result m)
unfolding check_in
form_passed form s m e = let r = passed (is_form form) 1 _ m e in (T_eq (is_form form) r.0, r.1)

-- in a form that there is, it is Check at the form's width
pub form_known : (form : ℕ) (s : List ℕ) → is_form form ≡ true → check_in form s ≡ check_of (width_of form) s
unfolding check_in
form_known form s e = rw e

-- what holds of form one and of form two holds of every form that there is
pub by_form : (Q : ℕ → Type 0) → Q form_one → Q form_two → (form : ℕ) → is_form form ≡ true → Q form
by_form Q one two zero e = absurd (false≢true e)
by_form Q one two (suc zero) e = one
by_form Q one two (suc (suc zero)) e = two
by_form Q one two (suc (suc (suc form))) e =
    absurd (false≢true (sym (rw (ne_eqb (suc (suc (suc form))) 1 (λ q. omega arith), ne_eqb (suc (suc (suc form))) 2 (λ q. omega arith)) refl) ∙ e))

narrow_by : (two : Bool) → cond two 24 16 ≤ most_width
narrow_by true = omega arith
narrow_by false = omega arith

pub form_narrow : (form : ℕ) → width_of form ≤ most_width
form_narrow form = narrow_by (eqb form form_two)
