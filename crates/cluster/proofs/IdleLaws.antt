-- A settled server that nothing reaches stays as it is in stage 1, and what it says then sends no known pair.
-- It stands on Settled and on the laws of sending.
use mathlib.Core.{Path.◌≡◌, Path.refl, Path.sym, Path.◌∙◌, Path.fun_ext, List.List}
use mathlib.Core.Bool.{Bool, true, false, not, ◌&&◌, ◌||◌, cond, and-false, or-false}
use Prim.Native.Nat.{ℕ, ◌/◌, ◌%◌, ◌≤◌, ◌<◌}
use native.Mathlib.Omega.{arith}
use lib.{Bits.bit_and, Dec.eqb, Dec.ltb}
use borrow.Author.Tests.{le-ltb, ne_eqb, eqb-true, ltb-true, not-false}
use Rattle.register.specs.Server.{is_faulty, is_correct}
use Rattle.register.specs.Lists.{member}
use Rattle.register.proofs.Logic.{cond_e, T_eq, F_eq, neither}
use Rattle.limits.specs.Bits.{bit}
use Rattle.calendar.specs.Layout.{receivers, slots}
use Rattle.limits.specs.Limits.{places, no_pair}
use Rattle.calendar.proofs.Laws.{never}
use Rattle.sending.specs.declared.Sender.{Sender}
use Rattle.serving.specs.Stored.{Plain, Both}
use Rattle.sending.specs.Sends.{Said, votes_for, reaches, sends_vote, sends}
use Rattle.serving.specs.Stages.{nobody, silent, voting, replies_to, delivered_of, delivered, stage_one}
use Rattle.tallies.specs.Tallies.{joined}
use Rattle.serving.specs.Settled.{Settled}
use Rattle.serving.proofs as serving-laws
use Rattle.stores.proofs as stores-laws
use Rattle.sending.proofs as sending-laws
use Rattle.limits.proofs as limits-laws

-- ---- what it sends

-- no vote for the pair, and no reply
pub sends_none : (plan : List ℕ) (from : Sender) (ends : List ℕ) (said : Said) (x j : ℕ) → votes_for said j ≡ false → ((y : ℕ) → said.readers y ≡ false)
    → sends plan from ends said x j ≡ false
unfolding sends_vote
sends_none plan from ends said x j e n =
    rw (
      e,
      and-false (eqb (reaches plan from (x % receivers) % slots) (x / receivers)),
      and-false (not (eqb (x % receivers) from.i)),
      and-false (ltb (x % receivers) from.links.n),
    )
    (sending-laws.SendLaws.reply_none plan from ends said.readers (λ y. member y said.pairs) x j n)

pub silent_sends : (plan : List ℕ) (from : Sender) (ends : List ℕ) (x j : ℕ) → j < places → sends plan from ends silent x j ≡ false
silent_sends plan from ends x j l = sends_none plan from ends silent x j (rw (ne_eqb j no_pair (λ q. omega arith))) (λ y. refl)

-- ---- its stage

-- what it means that nothing reaches a server: `high` is its row's, `asked` whether some request reaches it
pub unreached : (any : Bool) (high : ℕ) (asked : Bool) (pending live : ℕ) → any ≡ (not (eqb high 0) || (asked || not (eqb (bit_and pending live) pending))) → any ≡ false
    → (high ≡ 0) × (asked ≡ false) × (bit_and pending live ≡ pending)
unreached any high asked pending live e none =
    let a = neither (not (eqb high 0)) _ (sym e ∙ none) in
    let b = neither asked _ a.1 in
    (eqb-true high 0 (not-false _ a.0), b.0, eqb-true (bit_and pending live) pending (not-false _ b.1))

-- a read drops out of its list only if it is not live
pub none_drops : (pending live : ℕ) → bit_and pending live ≡ pending → ◌≡◌ {A = ℕ → Bool} (λ x. bit x pending && bit x live) (λ x. bit x pending)
none_drops pending live e = fun_ext (λ x. sym (limits-laws.Bits.bit_and_lem x pending live) ∙ rw e)

module _ (m e r w : ℕ) (got : ℕ → ℕ → Bool) (asks live : ℕ → Bool) (s : Plain) (K : Settled m e r s) (few : m ≤ places) (none : (j i : ℕ) → j < m → got j i ≡ false)
    (wrote : places ≤ w) (unasked : (x : ℕ) → asks x ≡ false) (goes : ◌≡◌ {A = ℕ → Bool} (λ x. s.pending x && live x) s.pending) where
  joined_none : (votes : ℕ → ℕ → Bool) → joined m votes got ≡ votes
  joined_none votes = fun_ext (λ j. fun_ext (λ i. rw (never (ltb j m) (got j i) (λ l. none j i (ltb-true j m l))) (or-false (votes j i))))

  same-list : ◌≡◌ {A = ℕ → Bool} (λ x. (s.pending x && live x) || asks x) s.pending
  same-list = fun_ext (λ x. rw (unasked x) (or-false (s.pending x && live x))) ∙ goes

  no-replies : (c : Bool) (list : ℕ → Bool) → replies_to c true asks list ≡ nobody
  no-replies true list = fun_ext unasked
  no-replies false list = refl

  -- what it says, if it is faulty or not
  abbrev pub quiet : Bool → Said
  quiet c = cond c silent (record { wrote = w; echoed = false; readers = nobody; pairs = s.kept })

  quiet-delivered : delivered m e r w got asks live s ≡ record { server = s; said = quiet false }
  unfolding delivered delivered_of
  quiet-delivered =
      rw (
        joined_none s.fresh,
        joined_none s.recent,
        le-ltb w m (omega arith),
        serving-laws.Settled.taken_none (voting e r s.fresh s.recent) m s.kept K.same,
        same-list,
        stores-laws.StoreLaws.same_as_itself s.kept,
        no-replies (is_correct s.status) s.pending,
      )
      refl

  pub idle_one : stage_one m e r w got asks live s ≡ record { server = s; said = quiet (is_faulty s.status) }
  unfolding stage_one
  idle_one = cond_e (λ (o : Both). o ≡ record { server = s; said = quiet (is_faulty s.status) }) (is_faulty s.status) _ _
      (λ t. rw (T_eq (is_faulty s.status) t)) (λ f. quiet-delivered ∙ rw (F_eq (is_faulty s.status) f))

  pub quiet_sends : (plan : List ℕ) (from : Sender) (ends : List ℕ) (c : Bool) (x j : ℕ) → j < places → sends plan from ends (quiet c) x j ≡ false
  quiet_sends plan from ends true x j l = silent_sends plan from ends x j l
  quiet_sends plan from ends false x j l = sends_none plan from ends (quiet false) x j (rw (ne_eqb j w (λ q. omega arith))) (λ y. refl)
