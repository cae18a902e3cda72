-- The operation: what it writes and returns, for a plan that is accepted and for one that is refused.
-- It stands on the laws of the way back.
use mathlib.Core.Path.{◌≡◌, ◌∙◌, refl, sym}
use mathlib.Core.Bool.{true, false}
use mathlib.Core.List.{List, ◌++◌}
use Prim.Native.Nat.{ℕ, ◌≤◌, ◌<◌}
use native.Mathlib.Omega.{arith}
use lib.Dec.{leb}
use lib.ListN.{length, drop}
use borrow.Author.Tests.{le-leb, lt-leb}
use Rattle.bits.specs.Field.{Bytes}
use Rattle.register.proofs.Logic.{T_eq}
use Rattle.plan.specs.Check.{Outcome, refused, result, check_of}
use Rattle.plan.specs.Buffer.{Buffered, into_buffer}
use Rattle.plan.proofs.{Tests.passed, Buffer.into_outcome}
use Rattle.carrying.specs.Carrying.{carried_plan, values_fit, carry_tests, carry_after, carry_of}
use Rattle.carrying.specs.Carried.{Carried}
use Rattle.carrying.proofs.Values.{wider_fits}
use Rattle.carrying.proofs.Back as back
use Rattle.carrying.proofs.Kept.{carried_kept}
use Rattle.carrying.proofs.Answers.{answers_carried}

module _ (v w : ℕ) (s : List ℕ) where
  module _ (out : List ℕ) where
    -- what is left behind Check
    abbrev ends : Buffered
    ends = into_buffer (carried_plan v w s) out (carry_tests v w s (length out))

    pub after_check : (m : ℕ) → check_of v s ≡ result m → carry_of v w s out ≡ ends
    unfolding carry_of carry_after
    after_check m accepted = rw accepted

    pub too_wide : values_fit v w s ≡ false → ends ≡ record { outcome = refused 19; out = out }
    unfolding carry_tests into_buffer
    too_wide wide = rw wide

    pub too_short : values_fit v w s ≡ true → length out < length (carried_plan v w s) → ends ≡ record { outcome = refused 20; out = out }
    unfolding carry_tests into_buffer
    too_short fit short = rw (fit, lt-leb (length (carried_plan v w s)) (length out) short)

    pub fills : values_fit v w s ≡ true → length (carried_plan v w s) ≤ length out
        → ends ≡ record { outcome = result (length (carried_plan v w s)); out = carried_plan v w s ++ drop (length (carried_plan v w s)) out }
    unfolding carry_tests into_buffer
    fills fit room = rw (fit, le-leb (length (carried_plan v w s)) (length out) room)

  -- an accepted plan whose values fit is written, given room
  pub carries : (m : ℕ) → check_of v s ≡ result m → values_fit v w s ≡ true → (out : List ℕ) → length (carried_plan v w s) ≤ length out
      → carry_of v w s out ≡ record { outcome = result (length (carried_plan v w s)); out = carried_plan v w s ++ drop (length (carried_plan v w s)) out }
  carries m accepted fit out room = after_check out m accepted ∙ fills out fit room

  -- a plan that is refused keeps its number
  pub keeps_refusal : (number : ℕ) → check_of v s ≡ refused number → (out : List ℕ) → carry_of v w s out ≡ record { outcome = refused number; out = out }
  unfolding carry_of carry_after into_buffer
  keeps_refusal number e out = rw e

  after-result : (room m : ℕ) (x : Outcome ℕ) → carry_after v w s room x ≡ result m
      → (reads : ℕ) × (x ≡ result reads) × (values_fit v w s ≡ true) × (m ≡ length (carried_plan v w s))
  unfolding carry_after carry_tests
  after-result room m (refused number) e = let z : ◌≡◌ {A = ℕ} 0 1 = cc in absurd (omega arith)
  after-result room m (result reads) e =
      let a = passed (values_fit v w s) 19 _ m e in
      let b = passed (leb (length (carried_plan v w s)) room) 20 (result (length (carried_plan v w s))) m a.1 in
      let last : result (length (carried_plan v w s)) ≡ result m = b.1 in
      (reads, refl, T_eq (values_fit v w s) a.0, cc)

  -- what is written was accepted and fits
  pub carried_from : (out : List ℕ) (m : ℕ) → (carry_of v w s out).outcome ≡ result m
      → (reads : ℕ) × (check_of v s ≡ result reads) × (values_fit v w s ≡ true) × (m ≡ length (carried_plan v w s))
  unfolding carry_of
  carried_from out m e = after-result (length out) m (check_of v s) (sym (into_outcome (carried_plan v w s) out _) ∙ e)

  pub carried_well : (out : List ℕ) (m : ℕ) → Bytes s → (carry_of v w s out).outcome ≡ result m → Carried v w s m
  carried_well out m bytes e =
      let (reads, accepted, fit, size) = carried_from out m e in
      record {
        bytes = size;
        reads = reads;
        accepted = accepted;
        fit = fit;
        checked = back.carried_accepted v w s fit reads accepted;
        kept = carried_kept v w s fit;
        answers = answers_carried v w s reads accepted fit;
        fit_back = back.fits_back v w s fit;
        back = back.back_and_forth v w s fit reads accepted bytes;
      }

-- 'back and forth gives the same bytes', of the operation
pub carries_back : (v w : ℕ) (s : List ℕ) (m : ℕ) → Bytes s → check_of v s ≡ result m → values_fit v w s ≡ true → (out : List ℕ) → length s ≤ length out
    → carry_of w v (carried_plan v w s) out ≡ record { outcome = result (length s); out = s ++ drop (length s) out }
carries_back v w s m bytes accepted fit out room =
    let again = back.back_and_forth v w s fit m accepted bytes in
    let all = carries w v (carried_plan v w s) m (back.carried_accepted v w s fit m accepted) (back.fits_back v w s fit) out (rw again room) in
    rw again at all

-- To a form that is no narrower every accepted plan is carried, given room: 19 is of the way back alone.
module _ (v w : ℕ) (s : List ℕ) (m : ℕ) (wide : v ≤ w) (accepted : check_of v s ≡ result m) where
  pub carries_there : (out : List ℕ) → length (carried_plan v w s) ≤ length out
      → carry_of v w s out ≡ record { outcome = result (length (carried_plan v w s)); out = carried_plan v w s ++ drop (length (carried_plan v w s)) out }
  carries_there = carries v w s m accepted (wider_fits v w s wide)

  -- and from there back to the same bytes
  pub there_and_back : Bytes s → (out : List ℕ) → length s ≤ length out
      → carry_of w v (carried_plan v w s) out ≡ record { outcome = result (length s); out = s ++ drop (length s) out }
  there_and_back bytes = carries_back v w s m bytes accepted (wider_fits v w s wide)
