-- What Play writes for an accepted plan: where it has a result, all answers stand at the front; long enough buffers give a result.
-- It stands on what Check accepts and on the length of the answers.
use mathlib.Core.Path.{◌≡◌, refl, sym, ap, ◌∙◌}
use mathlib.Core.Bool.{Bool, true, false, cond}
use mathlib.Core.List.{List, ◌++◌}
use Prim.Native.Nat.{ℕ, ◌*◌, ◌≤◌}
use native.Mathlib.Omega.{arith}
use lib.Dec.{ltb}
use lib.ListN.{length, take, drop}
use lib.Seq.{take_at}
use borrow.Author.Tests.{le-ltb}
use Rattle.plan.specs.Packed.{plan_of}
use Rattle.plan.specs.Check.{result, check_of}
use Rattle.plan.proofs.Accept.{Accepted, accepts}
use Rattle.answers.specs.Answers.{answer_size, answers_of}
use Rattle.answers.specs.Workspace.{workspace_size, zeroed}
use Rattle.results.specs.Play.{Played, play_refused, play_after, play_of}
use Rattle.results.proofs.AnswerBytes.{answers_of_length}

-- Where Play has a result, it wrote all answers at the front.
module _ (w : ℕ) (s : List ℕ) (A : Accepted w s) (answers workspace : List ℕ) (m : ℕ) where
  written : (a b : Bool) (done : Played)
      → (cond a (play_refused w s answers workspace 9) (cond b (play_refused w s answers workspace 10) done)).outcome ≡ result m
      → (cond a (play_refused w s answers workspace 9) (cond b (play_refused w s answers workspace 10) done)) ≡ done
  written true b done e = let z : ◌≡◌ {A = ℕ} 0 1 = cc in absurd (omega arith)
  written false true done e = let z : ◌≡◌ {A = ℕ} 0 1 = cc in absurd (omega arith)
  written false false done e = refl

  played : Played
  played = record {
    outcome = result (length (plan_of w s).reads);
    answers = answers_of w s ++ drop (answer_size w * length (plan_of w s).reads) answers;
    workspace = zeroed workspace;
  }

  play_done : (play_of w s answers workspace).outcome ≡ result m → play_of w s answers workspace ≡ played
  unfolding play_of play_after played
  play_done e =
      let short : Bool = ltb (length answers) (answer_size w * length (plan_of w s).reads) in
      rw (accepts w s A) (written short (ltb (length workspace) workspace_size) played (rw (accepts w s A) at e))

  pub play_writes : (play_of w s answers workspace).outcome ≡ result m
      → take (answer_size w * m) (play_of w s answers workspace).answers ≡ answers_of w s
  unfolding played
  play_writes e =
      let done = play_done e in
      let same : result (length (plan_of w s).reads) ≡ result m = sym (ap (λ (x : Played). x.outcome) done) ∙ e in
      let counted : length (plan_of w s).reads ≡ m = cc in
      let long : length (answers_of w s) ≡ answer_size w * m = answers_of_length w s ∙ ap (λ (k : ℕ). answer_size w * k) counted in
      rw done (take_at (answers_of w s) _ (answer_size w * m) long)

-- Buffers that are long enough are all that Play asks of an accepted plan.
pub play_plays : (w : ℕ) (s : List ℕ) (m : ℕ) → check_of w s ≡ result m → (answers workspace : List ℕ)
    → answer_size w * m ≤ length answers → workspace_size ≤ length workspace → (play_of w s answers workspace).outcome ≡ result m
unfolding play_of play_after
play_plays w s m e answers workspace a b =
    rw (e, le-ltb (length answers) (answer_size w * m) a, le-ltb (length workspace) workspace_size b)
