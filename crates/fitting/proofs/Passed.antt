-- What it says that answers have passed 12 and 13: they are as many as the reads, and each has its read's begin, its reader, and a zero bit of 0.
-- It stands on the laws of tests, and of Check in a form.
use mathlib.Core.Path.{◌≡◌, refl}
use mathlib.Core.Bool.{true}
use mathlib.Core.List.{List}
use Prim.Native.Nat.{ℕ, ◌*◌, ◌<◌}
use native.Mathlib.Omega.{arith}
use lib.Dec.{eqb, eqb→eq}
use lib.ListN.{length}
use Rattle.register.specs.Lists.{all_up_to}
use Rattle.register.proofs.Logic.{T_eq}
use Rattle.plan.specs.{Form.is_form, Form.width_of, Check.Outcome, Check.refused, Check.result, Check.check_of, Check.check_in}
use Rattle.plan.proofs.{Forms.form_passed, Laws.all_at, Tests.passed}
use Rattle.answers.specs.Answers.{answer_size}
use Rattle.results.specs.Judge.{answer_fits}
use Rattle.results.proofs.Fits.{IsTo, fits_to}
use Rattle.fitting.specs.Answered.{answered_after, answered_in, Answered}

module _ (w : ℕ) (s a : List ℕ) (m : ℕ) where
  -- both tests passed
  both-passed : (o : Outcome ℕ) → answered_after w s a o ≡ result m
      → (o ≡ result m) × (length a ≡ answer_size w * m) × (all_up_to m (answer_fits w s a) ≡ true)
  unfolding answered_after
  both-passed (refused number) e = let z : ◌≡◌ {A = ℕ} 0 1 = cc in absurd (omega arith)
  both-passed (result n) e =
      let long = passed (eqb (length a) (answer_size w * n)) 12 _ m e in
      let fit = passed (all_up_to n (answer_fits w s a)) 13 (result n) m long.1 in
      let same : n ≡ m = cc in
      rw (← same) (refl, eqb→eq (length a) (answer_size w * n) long.0, T_eq (all_up_to n (answer_fits w s a)) fit.0)

  pub answered : answered_after w s a (check_of w s) ≡ result m → Answered w s a m
  answered e =
      let r = both-passed (check_of w s) e in
      record {
        checked = r.0;
        size = r.1;
        fit = r.2;
      }

  -- each answer is to its read
  pub is_to_lem : Answered w s a m → (i : ℕ) → i < m → IsTo w s a i
  is_to_lem A i l = fits_to w s a i (all_at (answer_fits w s a) m i l A.fit)

-- in a form: there is such a form, and they passed at its width
pub form_answered : (form : ℕ) (s a : List ℕ) (m : ℕ) → answered_in form s a ≡ result m → (is_form form ≡ true) × Answered (width_of form) s a m
unfolding answered_in
form_answered form s a m e =
    let r = both-passed (width_of form) s a m (check_in form s) e in
    let f = form_passed form s m r.0 in (
      f.0,
      record {
        checked = f.1;
        size = r.1;
        fit = r.2;
      },
    )
