-- Whatever Play returns and leaves by its definition, point 3 comes with it; and the sizes that its code meets.
-- It stands on point 3 and on what Check accepts.
use mathlib.Core.Path.{◌≡◌, refl, sym, ap, ◌∙◌}
use mathlib.Core.Bool.{true}
use mathlib.Core.List.{List}
use Prim.Native.Nat.{ℕ, ◌*◌, ◌≤◌}
use native.Mathlib.Omega.{arith}
use lib.ListN.{take}
use Rattle.plan.specs.Form.{width_of}
use Rattle.plan.specs.Check.{Outcome, refused, result, check_of, check_in}
use Rattle.plan.proofs.Accept.{playable, reads_counted, in_range}
use Rattle.plan.proofs.Forms.{form_passed, form_known}
use Rattle.plan.proofs.AcceptReads.{few_reads}
use Rattle.answers.specs.Answers.{answer_size}
use Rattle.results.specs.Play.{Played, play_after, play_of, play_in}
use Rattle.results.specs.Judge.{judge_of}
use Rattle.results.specs.PointThree.{PointThree}
use Rattle.results.specs.Promised.{Promised}
use Rattle.results.proofs.PointThree.{point_three}

-- an accepted plan has at most 255 reads
pub reads_few : (w : ℕ) (s : List ℕ) (m : ℕ) → check_of w s ≡ result m → m ≤ 255
reads_few w s m e = omega (arith, reads_counted w s m e, few_reads w s, (in_range w s (playable w s m e)).operations_hi)

-- In a form: who is not refused by Play is not refused by Check.
module _ (form : ℕ) (s answers workspace : List ℕ) where
  abbrev w : ℕ
  w = width_of form

  after : (k : ℕ) (o : Outcome ℕ) → check_in form s ≡ o → (play_after w s answers workspace o).outcome ≡ result k → (m : ℕ) × (check_in form s ≡ result m)
  unfolding play_after
  after k (refused n) e q = let z : ◌≡◌ {A = ℕ} 0 1 = cc in absurd (omega arith)
  after k (result m) e q = (m, e)

  module _ (p : Played) (is : p ≡ play_in form s answers workspace) where
    plays : (k : ℕ) → p.outcome ≡ result k → (play_in form s answers workspace).outcome ≡ result k
    plays k q = sym (ap (λ (x : Played). x.outcome) is) ∙ q

    accepted : (k : ℕ) → p.outcome ≡ result k → (m : ℕ) × (check_in form s ≡ result m)
    unfolding play_in
    accepted k q = after k (check_in form s) refl (plays k q)

    point : (k : ℕ) → p.outcome ≡ result k → PointThree w s
    point k q = let (m, e) = accepted k q in point_three w s m (form_passed form s m e).1

    -- in a form that there is, it is Play at the form's width
    same : (k : ℕ) → p.outcome ≡ result k → p ≡ play_of w s answers workspace
    unfolding play_of play_in
    same k q = let (m, e) = accepted k q in is ∙ ap (play_after w s answers workspace) (form_known form s (form_passed form s m e).0)

    judged : (k : ℕ) → p.outcome ≡ result k → judge_of w s (take (answer_size w * k) p.answers) ≡ result true
    judged k q = rw (ap (λ (x : Played). x.answers) (same k q)) ((point k q).judged answers workspace k (sym (ap (λ (x : Played). x.outcome) (same k q)) ∙ q))

    pub promised : Promised w s p.outcome p.answers
    promised = record { point = point; judged = judged }
