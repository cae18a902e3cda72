-- Stages 3 and 4 of the engine keep the relation with the step rules, at a movement and in any other tick. They stand on Told.
use mathlib.Core.Path.{◌≡◌, refl, sym, ◌∙◌}
use mathlib.Core.Bool.{Bool, true, false, not, ◌&&◌, ◌||◌, and-false, or-false}
use mathlib.Core.List.{List, [], ◌++◌, map}
use Prim.Native.Nat.{ℕ, suc, ◌/◌, ◌<◌}
use native.Mathlib.Omega.{arith}
use lib.Dec.{T, ltb, eqb}
use Rattle.register.specs.Lists.{any, member}
use Rattle.register.specs.Plan.{Plan, kk, is_move}
use Rattle.register.specs.Server.{Status, faulty, cured, is_faulty, is_correct, has, Server, Out, stage3, stage4, blank, moved}
use Rattle.register.proofs.Logic.{T_eq, F_eq, cond_e}
use Rattle.register.proofs.Lists.{any_append}
use Rattle.register.proofs.Rising.{member_map}
use Rattle.serving.specs.Stored.{Plain, Both}
use Rattle.tallies.specs.Tallies.{no_votes}
use Rattle.serving.specs.Stages.{blank_as, moved_on, stage_four}
use Rattle.refinement.specs.State.{Votes, Rep}
use Rattle.refinement.proofs.Told.{both_cond, Mid, End}

module _ (P : Plan) (g : ℕ → ℕ) (rising : (i j : ℕ) → i < j → g i < g j) (m : ℕ) where
  no-votes : Votes P g m [] no_votes
  unfolding has any
  no-votes j i h = sym (and-false (ltb i P.n))

  blank-rep : (t : ℕ) (s : Status) → Rep P g m t (blank s) (blank_as s)
  unfolding has any
  blank-rep t s = record {
    status = refl;
    kept = refl;
    short = omega arith;
    fresh = no-votes;
    recent = no-votes;
    heard = λ r i a b. refl;
    unheard = λ r i a. refl;
    empty = λ y. (refl, refl);
  }

  moved-rep : (t : ℕ) (h : Bool) (x : Server) (s : Plain) → Rep P g m (suc t) x s → Rep P g m (suc t) (moved P t h x) (moved_on (eqb (kk P) 2) h t s)
  unfolding moved moved_on has any
  moved-rep t true x s R = blank-rep (suc t) faulty
  moved-rep t false x s R =
      rw R.status (both_cond (Rep P g m (suc t)) (is_faulty s.status) (blank (cured t)) _ (blank_as (cured t)) _ (λ y. blank-rep (suc t) (cured t)) (λ h. record {
        status = refl;
        kept = R.kept;
        short = R.short;
        fresh = no-votes;
        recent = both_cond (Votes P g m) (eqb (kk P) 2) x.fresh [] s.fresh no_votes (λ y. R.fresh) (λ y. no-votes);
        heard = R.heard;
        unheard = R.unheard;
        empty = λ y. absurd (rw h at y);
      }))

  -- a server that is correct after the movement has the pairs that it had
  abbrev Unmoved : Server → Server → Type 0
  Unmoved x y = T (is_correct y.status) → T (not (is_faulty x.status)) × (y.kept ≡ x.kept)

  correct-kept : (t : ℕ) (h : Bool) (x : Server) → Unmoved x (moved P t h x)
  unfolding moved
  correct-kept t true x = λ y. absurd y
  correct-kept t false x = cond_e (Unmoved x) (is_faulty x.status) (blank (cured t)) _ (λ f y. absurd y) (λ f y. (f, refl))

  pub four_rep : (t b : ℕ) (o : Out) (q : Both) → T (is_move P t) → Mid P g m t o q
      → End P g m t (stage4 P t (stage3 P t b o)) (stage_four (eqb (kk P) 2) (P.placed (t / P.period) b) t q)
  unfolding stage4 stage3 stage_four
  four_rep t b o q mv M = rw (T_eq (is_move P t) mv) (cond_e (λ (x : Out). End P g m t x (stage_four (eqb (kk P) 2) h t q)) (is_correct mb.status) _ _
      (λ y.
      let w = correct-kept t h o.server y in
      let k : mb.kept ≡ map g q.said.pairs = w.1 ∙ sym (M.whole w.0) ∙ M.sent.pairs in
      let z : is_correct ms.status ≡ true = rw R.status at (T_eq (is_correct mb.status) y) in
      ends (o.sent.votes ++ mb.kept) (λ j l. any_append (λ p. eqb p (g j)) o.sent.votes mb.kept ∙ rw (z, k, member_map g rising j q.said.pairs, quiet-votes j l)))
      (λ y.
      let z : is_correct ms.status ≡ false = rw R.status at (F_eq (is_correct mb.status) y) in
      ends o.sent.votes (λ j l. quiet-votes j l ∙ rw z (sym (or-false (eqb j q.said.wrote))))))
    where
      h : Bool
      h = P.placed (t / P.period) b

      mb : Server
      mb = moved P t h o.server

      ms : Plain
      ms = moved_on (eqb (kk P) 2) h t q.server

      R : Rep P g m (suc t) mb ms
      R = moved-rep t h o.server q.server M.server

      quiet-votes : (j : ℕ) → j < m → member (g j) o.sent.votes ≡ eqb j q.said.wrote
      quiet-votes j l = M.sent.votes j l ∙ rw M.quiet (or-false (eqb j q.said.wrote))

      -- with the votes vs
      ends : (vs : List ℕ) → ((j : ℕ) → j < m → member (g j) vs ≡ eqb j q.said.wrote || (is_correct ms.status && member j q.said.pairs))
          → End P g m t (record { server = mb; sent = record { votes = vs; reply_to = o.sent.reply_to; reply_with = o.sent.reply_with } }) (stage_four (eqb (kk P) 2) h t q)
      ends vs e = record { server = R; sent = record { votes = e; readers = M.sent.readers; pairs = M.sent.pairs } }

  pub still_rep : (t b : ℕ) (o : Out) (q : Both) → T (not (is_move P t)) → Mid P g m t o q → End P g m t (stage4 P t (stage3 P t b o)) q
  unfolding stage4 stage3
  still_rep t b o q mv M = rw (F_eq (is_move P t) mv) (record { server = M.server; sent = M.sent })
