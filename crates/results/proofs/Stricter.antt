-- Judge against document 01's: no yes that was none, and the same verdict where no read begins in the tick in which a write ends.
-- It stands on the register's law of one answer.
use mathlib.Core.Path.{◌≡◌, refl, ap}
use mathlib.Core.Bool.{Bool, true, false}
use mathlib.Core.List.{List}
use Prim.Native.Nat.{ℕ, ◌*◌}
use lib.Dec.{T, eqb}
use lib.ListN.{length}
use Rattle.register.specs.Lists.{all_up_to, In}
use Rattle.register.specs.Plan.{Plan, Write, write_end}
use Rattle.register.proofs.Logic.{T_eq}
use Rattle.register.proofs.Stricter.{kept_allowed, same_allowed}
use Rattle.plan.specs.Packed.{plan_of}
use Rattle.plan.specs.Check.{Outcome, refused, result, unless, check_of}
use Rattle.plan.proofs.Laws.{all_at, all_same}
use Rattle.plan.proofs.Tests.{all_from}
use Rattle.answers.specs.Answers.{answer_size, pair_in}
use Rattle.results.specs.Judge.{read_of, answer_fits, answer_allowed, judge_after, judge_of}
use Rattle.results.specs.Stricter.{answer_allowed01, judge_after01, judge_of01, JudgeStricter}

-- is it a yes
abbrev yes_in : Outcome Bool → Bool
yes_in (refused n) = false
yes_in (result b) = b

-- a yes behind two tests
kept_yes : (long fit : Bool) {a b : Bool} → (a ≡ true → b ≡ true) → unless long 12 (unless fit 13 (result a)) ≡ result true → unless long 12 (unless fit 13 (result b)) ≡ result true
kept_yes true true f e = ap result (f (ap yes_in e))
kept_yes true false f e = e
kept_yes false fit f e = e

module _ (w : ℕ) (s a : List ℕ) where
  kept-one : (i : ℕ) → answer_allowed w s a i ≡ true → T (answer_allowed01 w s a i)
  unfolding answer_allowed answer_allowed01
  kept-one i e = let P : Plan = plan_of w s in kept_allowed P (read_of P i) (pair_in w a i) (rw e tt)

  kept-all : (m : ℕ) → all_up_to m (answer_allowed w s a) ≡ true → all_up_to m (answer_allowed01 w s a) ≡ true
  kept-all m e =
      T_eq (all_up_to m (answer_allowed01 w s a)) (all_from m (answer_allowed01 w s a) (λ i l. kept-one i (all_at (answer_allowed w s a) m i l e)))

  kept-after : (o : Outcome ℕ) → judge_after w s a o ≡ result true → judge_after01 w s a o ≡ result true
  unfolding judge_after judge_after01
  kept-after (refused n) e = e
  kept-after (result m) e = kept_yes (eqb (length a) (answer_size w * m)) (all_up_to m (answer_fits w s a)) (kept-all m) e

  module _ (none : (i : ℕ) (v : Write) → In v (plan_of w s).writes → write_end (plan_of w s) v ≡ (read_of (plan_of w s) i).begun → ⊥) where
    same-one : (i : ℕ) → answer_allowed w s a i ≡ answer_allowed01 w s a i
    unfolding answer_allowed answer_allowed01
    same-one i = let P : Plan = plan_of w s in same_allowed P (read_of P i) (none i) (pair_in w a i)

    same_after : (o : Outcome ℕ) → judge_after w s a o ≡ judge_after01 w s a o
    unfolding judge_after judge_after01
    same_after (refused n) = refl
    same_after (result m) = rw (all_same (answer_allowed w s a) (answer_allowed01 w s a) m (λ i l. same-one i))

  pub judge_stricter : JudgeStricter w s a
  unfolding judge_of judge_of01
  judge_stricter = record { kept = kept-after (check_of w s); same = λ none. same_after none (check_of w s) }
