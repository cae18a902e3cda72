-- The forgeries of a plan that can be played: each is sent below H by a server that is faulty then, to another server or to a reader whose read is open.
-- It stands on Accept.
use mathlib.Core.Path.{◌≡◌}
use mathlib.Core.Bool.{Bool, not, ◌&&◌, ◌||◌}
use mathlib.Core.Logic.{◌⊎◌, inl, inr}
use mathlib.Core.List.{List}
use Prim.Native.Nat.{ℕ, ◌+◌, ◌/◌, ◌≤◌, ◌<◌}
use native.Mathlib.Omega.{arith}
use lib.Dec.{T, leb, ltb, eqb, leb→le, ltb→lt, eqb→eq, eqb_refl, T_not}
use Rattle.register.specs.Lists.{In}
use Rattle.register.specs.Plan.{Plan, Read, Forgery, read_end}
use Rattle.register.proofs.Logic.{and_l, and_r, or_e}
use Rattle.register.proofs.Lists.{in_tab_from, any_in}
use Rattle.plan.specs.Header.{Header, header_of}
use Rattle.plan.specs.Parts.{forgery_of}
use Rattle.plan.specs.Packed.{plan_of}
use Rattle.plan.specs.Check.{read_open, forgery_stands, forgeries_stand}
use Rattle.plan.proofs.Tests.{all_at}
use Rattle.plan.specs.Playable.{Playable}

-- who is placed is a server
pub placed_below : (w : ℕ) (s : List ℕ) (i b : ℕ) → T ((plan_of w s).placed i b) → b < (header_of w s).n
unfolding plan_of
placed_below w s i b t = ltb→lt b (header_of w s).n (search (and_l, and_r))

-- a forged vote, to another server
pub record ForgedVote (P : Plan) (g : Forgery) : Type 0 where
  pub to_server : g.to < P.n
  pub to_other : g.to ≡ g.from → ⊥

-- a forged reply, to a reader whose read is open
pub record ForgedReply (P : Plan) (g : Forgery) : Type 0 where
  pub read : Read
  pub listed : In read P.reads
  pub to_reader : P.n + read.reader ≡ g.to
  pub begun_before : read.begun ≤ g.at
  pub ends_after : g.at < read_end P read

module _ (w : ℕ) (s : List ℕ) (g : Forgery) where
  vote-facts : T (ltb g.to (header_of w s).n && not (eqb g.to g.from)) → ForgedVote (plan_of w s) g
  unfolding plan_of
  vote-facts t = record {
    to_server = ltb→lt g.to (header_of w s).n (search and_l);
    to_other = λ e. T_not (eqb g.to g.from) (and_r (ltb g.to (header_of w s).n) _ t) (rw e (eqb_refl g.from));
  }

  reply-facts : T (read_open w s (header_of w s) g) → ForgedReply (plan_of w s) g
  unfolding read_open
  reply-facts t =
      let P : Plan = plan_of w s in
      let open-for : Read → Bool = λ r. eqb (P.n + r.reader) g.to && (leb r.begun g.at && ltb g.at (read_end P r)) in
      let (r, i, c) = any_in open-for P.reads t in
      record {
        read = r;
        listed = i;
        to_reader = eqb→eq (P.n + r.reader) g.to (search and_l);
        begun_before = leb→le r.begun g.at (search (and_l, and_r));
        ends_after = ltb→lt g.at (read_end P r) (search (and_l, and_r));
      }

module _ (w : ℕ) (s : List ℕ) (A : Playable w s) where
  -- a forgery is one of the listed ones, and passed its test
  forgery-test : (g : Forgery) → In g (plan_of w s).forged
      → (i : ℕ) × (i < (header_of w s).forgeries) × (g ≡ forgery_of w s (header_of w s) i) × T (forgery_stands w s (header_of w s) i)
  unfolding plan_of forgeries_stand
  forgery-test g m =
      let h : Header = header_of w s in
      let (i, l, e) = in_tab_from g 0 h.forgeries (forgery_of w s h) m in
      (i, omega arith, e, all_at h.forgeries (forgery_stands w s h) A.forgeries i (omega arith))

  pub forger_placed : (g : Forgery) → In g (plan_of w s).forged → T ((plan_of w s).placed (g.at / (header_of w s).period) g.from)
  unfolding forgery_stands
  forger_placed g m =
      let h : Header = header_of w s in
      let (i, l, e, ok) = forgery-test g m in
      let c : T ((plan_of w s).placed ((forgery_of w s h i).at / h.period) (forgery_of w s h i).from) = search (and_l, and_r) in
      rw e c

  pub forged_below : (g : Forgery) → In g (plan_of w s).forged → g.at < (header_of w s).ticks
  unfolding forgery_stands
  forged_below g m =
      let h : Header = header_of w s in
      let (i, l, e, ok) = forgery-test g m in
      rw e (ltb→lt (forgery_of w s h i).at h.ticks (search and_l))

  -- 'The receiver .. is another box, where it is a vote, or a screen whose read began at or before that tick and ends after it'
  pub forged_to_lem : (g : Forgery) → In g (plan_of w s).forged → ForgedVote (plan_of w s) g ⊎ ForgedReply (plan_of w s) g
  unfolding forgery_stands read_open
  forged_to_lem g m =
      let h : Header = header_of w s in
      let (i, l, e, ok) = forgery-test g m in
      let f : Forgery = forgery_of w s h i in
      let vote : Bool = ltb f.to h.n && not (eqb f.to f.from) in
      let c : T (vote || read_open w s h f) = search (and_l, and_r) in
      rw e (elim (or_e vote (read_open w s h f) c) [ inl v ↦ inl (vote-facts w s f v) | inr r ↦ inr (reply-facts w s f r) ])
