-- Each way that Look ends, as its definition has it, and what it shows of a server.
-- It stands on the definitions alone.
use mathlib.Core.Path.{◌≡◌, refl}
use mathlib.Core.Bool.{Bool, true, false, cond}
use mathlib.Core.List.{List, [], ◌∷◌, ◌++◌, map}
use mathlib.Core.Logic.{inl, inr}
use Prim.Native.Nat.{ℕ, zero, suc, ◌-◌, ◌^◌, ◌≤◌, ◌<◌}
use lib.Dec.{eqb}
use lib.ListN.{length, replicate}
use borrow.Author.Tests.{lt-ltb, le-ltb, eqb-false}
use Rattle.register.specs as register-specs
use Rattle.register.specs.Server.{Server, Status, faulty, cured, correct}
use Rattle.plan.specs.Form.{width_of}
use Rattle.plan.specs.Header.{header_of}
use Rattle.plan.specs as plan-specs
use Rattle.register.proofs.Stamped.{value_stamped, number_stamped}
use Rattle.calendar.specs.declared.Stamped.{Stamped as Kept}
use Rattle.limits.specs.Limits.{no_pair}
use Rattle.std.specs.Prelude.{Option}
use Rattle.results.specs as results-specs
use Rattle.stores.specs.Stores.{pairs_in}
use Rattle.answers.specs.Workspace.{workspace_size, zeroed}
use Rattle.results.specs.Look.{Stamped, condition_of, shown_by, place_with, empty_place, places_of, Looked, look_shown, look_refused, look_after, look_in}
use Rattle.look.specs.Shown.{stored_in, seen_of}
use Rattle.results.specs.Numbered.{shown_in, condition_in}

-- In a form, whose values have w bits.
module _ (form : ℕ) (s workspace : List ℕ) (b t : ℕ) where
  abbrev w : ℕ
  w = width_of form

  abbrev refused_by : ℕ → Looked
  refused_by number = look_refused w s workspace b t number

  pub look_checked : (n : ℕ) → plan-specs.Check.check_in form s ≡ plan-specs.Check.refused n → refused_by n ≡ look_in form s workspace b t
  unfolding look_in look_after
  look_checked n e = rw e

  module _ (m : ℕ) (accepted : plan-specs.Check.check_in form s ≡ plan-specs.Check.result m) where
    pub look_ten : length workspace < workspace_size → refused_by 10 ≡ look_in form s workspace b t
    unfolding look_in look_after
    look_ten h = rw (accepted, lt-ltb (length workspace) workspace_size h)

    module _ (room : workspace_size ≤ length workspace) where
      pub look_server : (header_of w s).n ≤ b → refused_by 11 ≡ look_in form s workspace b t
      unfolding look_in look_after
      look_server h = rw (accepted, le-ltb (length workspace) workspace_size room, le-ltb b (header_of w s).n h)

      module _ (server : b < (header_of w s).n) where
        pub look_tick : (header_of w s).ticks ≤ t → refused_by 11 ≡ look_in form s workspace b t
        unfolding look_in look_after
        look_tick h = rw (accepted, le-ltb (length workspace) workspace_size room, lt-ltb b (header_of w s).n server, le-ltb t (header_of w s).ticks h)

        pub look_done : t < (header_of w s).ticks → (x : Looked)
            → x ≡ look_shown (shown_by w (register-specs.Cluster.server_of (register-specs.Cluster.cluster (plan-specs.Packed.plan_of w s) (suc t)) b)) (zeroed workspace)
            → x ≡ look_in form s workspace b t
        unfolding look_in look_after
        look_done h x e = rw (accepted, le-ltb (length workspace) workspace_size room, lt-ltb b (header_of w s).n server, lt-ltb t (header_of w s).ticks h) e

-- a store shows its pairs, if their values have w bits
module _ (w : ℕ) where
  shows : ℕ → Stamped
  shows k = record { value = register-specs.Plan.value_of w k; number = register-specs.Plan.number_of w k }

  abbrev NarrowIn : List Kept → Type 0
  NarrowIn kept = (p : Kept) → register-specs.Lists.In p kept → (p.number ≡ no_pair → ⊥) → p.value < 2 ^ w

  shown-stored : (ps : List Kept) → NarrowIn ps → map shows (pairs_in w ps) ≡ stored_in ps
  unfolding pairs_in stored_in shows
  shown-stored [] narrow = refl
  shown-stored (p ∷ ps) narrow = go (eqb p.number no_pair) refl (shown-stored ps (λ q i. narrow q (inr i)))
    where
      go : (b : Bool) → eqb p.number no_pair ≡ b → map shows (pairs_in w ps) ≡ stored_in ps
          → map shows (cond b [] (register-specs.Plan.stamped w p.value p.number ∷ pairs_in w ps)) ≡ cond b [] (record { value = p.value; number = p.number } ∷ stored_in ps)
      go true n e = refl
      go false n e =
          let l : p.value < 2 ^ w = narrow p (inl refl) (eqb-false p.number no_pair n) in
          rw (value_stamped w p.value p.number l, number_stamped w p.value p.number l, e)

shown_as : (x : Status) → condition_in (seen_of x) ≡ condition_of x
unfolding condition_of
shown_as faulty = refl
shown_as (cured since) = refl
shown_as correct = refl

-- the array's pairs are those that it was made of
shown_places : (pairs : List Stamped) → shown_in (places_of pairs) ≡ pairs
unfolding places_of shown_in
shown_places pairs = go pairs (plan-specs.Packed.store_depth - length pairs)
  where
    go : (pairs : List Stamped) (m : ℕ) → shown_in (map place_with pairs ++ replicate m empty_place) ≡ pairs
    go [] zero = refl
    go [] (suc m) = refl
    go (p ∷ pairs) m = rw (go pairs m)

module _ (w : ℕ) (x : Server) (status : Status) (kept : List Kept) (es : x.status ≡ status) (ek : x.kept ≡ pairs_in w kept) (narrow : NarrowIn w kept) where
  pub shown : (seen : results-specs.declared.look.Condition.Condition) (places : List (Option results-specs.declared.look.Pair.Pair)) (a v : List ℕ) → seen ≡ seen_of status → places ≡ places_of (stored_in kept) → a ≡ v
      → record { outcome = plan-specs.Check.result (record { condition = condition_in seen; pairs = shown_in places }); places = places; workspace = a } ≡ look_shown (shown_by w x) v
  unfolding shown_by shows
  shown seen places a v e p z =
      rw (p, e, z, shown_places (stored_in kept), shown_as status, es, ek, shown-stored w kept narrow)
