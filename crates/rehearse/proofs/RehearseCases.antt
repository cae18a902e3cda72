-- Each way that a rehearsal ends, as its definition has it; a no is not among them.
-- It stands on Promised.
use mathlib.Core.Path.{◌≡◌, refl, sym, ap, ◌∙◌}
use mathlib.Core.Bool.{Bool, true, false, cond}
use mathlib.Core.List.{List, ◌++◌}
use Prim.Native.Nat.{ℕ, ◌*◌, ◌≤◌}
use native.Mathlib.Omega.{arith}
use lib.Dec.{ltb}
use lib.ListN.{length, take, drop}
use borrow.Author.Tests.{ltb-false}
use Rattle.std.specs.Prelude.{Result, Ok, Err}
use Rattle.plan.specs.declared.Refusal.{Refusal}
use Rattle.plan.specs.{Form.width_of, Check.Outcome, Check.refused, Check.result, Check.check_in}
use Rattle.plan.proofs.Forms.{form_passed, form_known}
use Rattle.answers.specs.{Answers.answer_size, Answers.answers_of, Workspace.workspace_size, Workspace.zeroed}
use Rattle.results.specs.Play.{Played, play_refused, play_after, play_in}
use Rattle.results.specs.Judge.{judge_after, judge_of, judge_in}
use Rattle.results.specs.Rehearse.{Verdict, yes, Rehearsed, verdict_on, rehearse_after, rehearse_from, rehearse_in}
use Rattle.results.specs.Numbered.{judged}
use Rattle.results.proofs.Promised.{reads_few}

-- a result of Judge that is yes
pub is_yes : (j : Result Bool Refusal) → judged j ≡ result true → j ≡ Ok true
is_yes (Ok b) e = let z : b ≡ true = cc in rw z
is_yes (Err r) e = let z : ◌≡◌ {A = ℕ} 0 1 = cc in absurd (omega arith)

pub no_refusal : {r : Refusal} → ◌≡◌ {A = Result Bool Refusal} (Err r) (Ok true) → ⊥
no_refusal e = cc

pub same_verdict : {b : Bool} → ◌≡◌ {A = Result Bool Refusal} (Ok b) (Ok true) → b ≡ true
same_verdict e = cc

-- what Play has not refused: the plan is accepted, and the answers have their room
room_after : (w : ℕ) (s answers workspace : List ℕ) (m : ℕ) (o : Outcome ℕ) → (play_after w s answers workspace o).outcome ≡ result m → (o ≡ result m) × (answer_size w * m ≤ length answers)
unfolding play_after
room_after w s answers workspace m (refused n) e = let z : ◌≡◌ {A = ℕ} 0 1 = cc in absurd (omega arith)
room_after w s answers workspace m (result k) e = go (ltb (length answers) (answer_size w * k)) (ltb (length workspace) workspace_size) refl e
  where
    go : (x y : Bool) → ltb (length answers) (answer_size w * k) ≡ x
        → (cond x (play_refused w s answers workspace 9) (cond y (play_refused w s answers workspace 10) (record {
          outcome = result k;
          answers = answers_of w s ++ drop (answer_size w * k) answers;
          workspace = zeroed workspace;
        }))).outcome ≡ result m
        → (result k ≡ result m) × (answer_size w * m ≤ length answers)
    go true y h q = let z : ◌≡◌ {A = ℕ} 0 1 = cc in absurd (omega arith)
    go false true h q = let z : ◌≡◌ {A = ℕ} 0 1 = cc in absurd (omega arith)
    go false false h q = let z : k ≡ m = cc in (q, rw (← z) (ltb-false (length answers) (answer_size w * k) h))

-- In a form, whose values have w bits.
module _ (form : ℕ) (s answers workspace : List ℕ) (p : Played) (is : p ≡ play_in form s answers workspace) where
  abbrev w : ℕ
  w = width_of form

  pub play_room : (m : ℕ) → p.outcome ≡ result m → (check_in form s ≡ result m) × (m ≤ 255) × (answer_size w * m ≤ length answers)
  unfolding play_in
  play_room m e =
      let r = room_after w s answers workspace m (check_in form s) (sym (ap (λ (x : Played). x.outcome) is) ∙ e) in
      (r.0, reads_few w s m (form_passed form s m r.0).1, r.1)

  abbrev leaves : Outcome Verdict → Rehearsed
  leaves o = record { outcome = o; answers = p.answers; workspace = p.workspace }

  from-play : (o : Outcome Verdict) → rehearse_after w s p.outcome p.answers ≡ o → leaves o ≡ rehearse_in form s answers workspace
  unfolding rehearse_from rehearse_in
  from-play o e = ap leaves (sym e) ∙ ap (rehearse_from w s) is

  pub rehearse_refused : (n : ℕ) → p.outcome ≡ refused n → leaves (refused n) ≡ rehearse_in form s answers workspace
  unfolding rehearse_after
  rehearse_refused n e = from-play (refused n) (ap (λ (o : Outcome ℕ). rehearse_after w s o p.answers) e)

  pub rehearse_yes : (m : ℕ) → p.outcome ≡ result m → judge_of w s (take (answer_size w * m) p.answers) ≡ result true
      → leaves (result (yes m)) ≡ rehearse_in form s answers workspace
  unfolding rehearse_after verdict_on
  rehearse_yes m e j =
      from-play (result (yes m)) (ap (λ (o : Outcome ℕ). rehearse_after w s o p.answers) e ∙ ap (verdict_on m) j)

  -- Judge in the form is Judge at its width
  pub judge_at : (m : ℕ) → p.outcome ≡ result m → (a : List ℕ) → judge_in form s a ≡ judge_of w s a
  unfolding judge_in judge_of
  judge_at m e a = ap (judge_after w s a) (form_known form s (form_passed form s m (play_room m e).0).0)
