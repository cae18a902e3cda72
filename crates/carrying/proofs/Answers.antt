-- 'A plan carried over gets the same answers with the wider field': the same reads, and of each answer the same numbers.
-- It stands on the law of renamed pairs.
use mathlib.Core.Path.{◌≡◌, ◌∙◌, refl, ap, sym}
use mathlib.Core.Bool.{true}
use mathlib.Core.List.{List, [], ◌∷◌}
use Prim.Native.Nat.{ℕ, ◌≤◌}
use native.Mathlib.Decide.{dec_le}
use native.Mathlib.Omega.{arith}
use Rattle.register.specs.Plan.{Read}
use Rattle.register.specs.Reading.{answer_of}
use Rattle.plan.specs.Header.{header_of}
use Rattle.plan.specs.Packed.{plan_of}
use Rattle.plan.specs.Check.{result, check_of}
use Rattle.plan.specs.Shape.{Ranged}
use Rattle.plan.proofs.Accept.{playable, in_range}
use Rattle.lists.specs.Lists.{lists_of}
use Rattle.answers.specs.Answers.{answer_with, answer_bytes, answers_for, answers_of}
use Rattle.renaming.{specs.Renaming.Renamed, proofs.Theorem.answer_renamed}
use Rattle.carrying.specs.{Carrying.carried_plan, Carrying.carried_pair, Carrying.values_fit, Answers.carried_for, Answers.carried_answers}
use Rattle.carrying.proofs.Pairs.{value_kept, number_kept, zero_kept, pairs_rise}
use Rattle.carrying.proofs as own

-- from the narrower plan's side
wider_answer : (v w : ℕ) (s t : List ℕ) → lists_of v s ≡ lists_of w t → Ranged (header_of v s) → v ≤ w → (r : Read)
    → answer_with w r (answer_of (plan_of w t) r) ≡ answer_with v r (answer_of (plan_of v s) r)
wider_answer v w s t same ranged wide r =
    let R = own.PlanRenamed.plan_renamed v w s t same ranged in
    let p = (answer_of (plan_of v s) r).pair in
    rw (
      answer_renamed (carried_pair v w) (pairs_rise v w wide) (plan_of v s) (plan_of w t) R (zero_kept v w) r,
      value_kept v w wide p,
      number_kept v w wide p,
    )

module _ (v w : ℕ) (s : List ℕ) (m : ℕ) (accepted : check_of v s ≡ result m) (fit : values_fit v w s ≡ true) where
  t : List ℕ
  t = carried_plan v w s

  same : lists_of v s ≡ lists_of w t
  unfolding t
  same = sym (own.Fitting.carried_lists v w s fit)

  ranged : Ranged (header_of v s)
  ranged = in_range v s (playable v s m accepted)

  pub carried_reads : (plan_of w (carried_plan v w s)).reads ≡ (plan_of v s).reads
  unfolding t
  carried_reads = own.AlikePlan.reads_alike v w s t same

  pub carried_answers_lem : (r : Read) → answer_with w r (answer_of (plan_of w (carried_plan v w s)) r) ≡ answer_with v r (answer_of (plan_of v s) r)
  unfolding t
  carried_answers_lem r =
      elim (dec_le v w) [
        | yes l ↦ wider_answer v w s t same ranged l r
        | no l ↦ sym (wider_answer w v t s (sym same) (rw (own.Alike.header_alike v w s t same) ranged) (omega arith) r)
      ]

  -- the pairs' form alone differs
  pub carried_renamed : Renamed (carried_pair v w) (plan_of v s) (plan_of w (carried_plan v w s))
  unfolding t
  carried_renamed = own.PlanRenamed.plan_renamed v w s t same ranged

  for-reads : (rs : List Read) → answers_for w (plan_of w (carried_plan v w s)) rs ≡ carried_for v w (plan_of v s) rs
  unfolding answers_for carried_for answer_bytes
  for-reads [] = refl
  for-reads (r ∷ rs) = rw (carried_answers_lem r, for-reads rs)

  -- all answers, in bytes
  pub answers_carried : answers_of w (carried_plan v w s) ≡ carried_answers v w s
  unfolding answers_of carried_answers
  answers_carried = ap (answers_for w (plan_of w (carried_plan v w s))) carried_reads ∙ for-reads (plan_of v s).reads
