-- What Play leaves, with buffers for the most reads, decides the text: its outcome is Check's, and its answers are the plan's.
-- It stands on what Play writes and on the most reads of an accepted plan.
use mathlib.Core.Path.{◌≡◌, refl, sym, ap, ◌∙◌}
use mathlib.Core.List.{List, ◌++◌}
use Prim.Native.Nat.{ℕ, ◌*◌, ◌≤◌}
use native.Mathlib.Omega.{arith}
use lib.ListN.{length, take}
use Rattle.decimal.specs.Aligned.{line_feed}
use Rattle.plan.specs.Limits.{most_reads}
use Rattle.plan.specs.Packed.{plan_of}
use Rattle.plan.specs.Check.{Outcome, refused, result, check_of, check_in}
use Rattle.plan.proofs.Accept.{accepted}
use Rattle.plan.proofs.Longest.{most_reads_lem}
use Rattle.answers.specs.Answers.{answer_size, answers_of}
use Rattle.answers.specs.Workspace.{workspace_size}
use Rattle.results.specs.Play.{Played, play_after, play_of, play_in}
use Rattle.results.proofs.Played.{play_plays, play_writes}
use Rattle.lines.specs.Text.{program_form, program_width, reads_word, refused_word, number_then, line_with, lines_for, text_after, text_of}

-- what so many reads from Play say of the plan, where Play left answers `a`
pub record Decided (s : List ℕ) (m : ℕ) (a : List ℕ) : Type 0 where
  pub accepted : check_of program_width s ≡ result m
  pub few : m ≤ most_reads
  pub answers : take (answer_size program_width * m) a ≡ answers_of program_width s
  pub text : (reads_word ++ number_then line_feed m) ++ lines_for program_width (plan_of program_width s) (plan_of program_width s).reads ≡ text_of program_width s

module _ (s answers workspace : List ℕ) (room : answer_size program_width * most_reads ≤ length answers) (work : workspace_size ≤ length workspace) where
  -- buffers for the most reads are never refused
  outcome-is : (play_of program_width s answers workspace).outcome ≡ check_of program_width s
  unfolding play_of play_after
  outcome-is = go (check_of program_width s) refl
    where
      go : (o : Outcome ℕ) → check_of program_width s ≡ o → (play_after program_width s answers workspace (check_of program_width s)).outcome ≡ check_of program_width s
      go (refused n) e = rw e
      go (result m) e = let few = most_reads_lem program_width s m e in play_plays program_width s m e answers workspace (omega arith) work ∙ sym e

  module _ (p : Played) (in-form : p ≡ play_in program_form s answers workspace) where
    is : p ≡ play_of program_width s answers workspace
    unfolding play_in play_of check_in
    is = in-form

    checked : p.outcome ≡ check_of program_width s
    checked = ap (λ (x : Played). x.outcome) is ∙ outcome-is

    pub decided : (m : ℕ) → p.outcome ≡ result m → Decided s m p.answers
    unfolding text_of text_after line_with
    decided m e =
        let c : check_of program_width s ≡ result m = sym checked ∙ e in
        record {
          accepted = c;
          few = most_reads_lem program_width s m c;
          answers = rw is (play_writes program_width s (accepted program_width s m c) answers workspace m (outcome-is ∙ c));
          text = rw c;
        }

    pub refused_text : (n : ℕ) → p.outcome ≡ refused n → refused_word ++ number_then line_feed n ≡ text_of program_width s
    unfolding text_of text_after line_with
    refused_text n e = let c : check_of program_width s ≡ refused n = sym checked ∙ e in rw c
