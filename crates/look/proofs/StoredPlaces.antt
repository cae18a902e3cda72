-- A store is walked from its first place as the array of places is.
-- It stands on the walk along an array.
use mathlib.Core.Path.{◌≡◌, refl, ◌∙◌}
use mathlib.Core.Bool.{Bool, true, false, cond}
use mathlib.Core.List.{List, [], ◌∷◌, map}
use Prim.Native.Nat.{ℕ, ◌+◌, ◌≤◌, ◌<◌}
use native.Mathlib.Omega.{arith}
use lib.Dec.{eqb}
use lib.ListN.{length, get_or, set, length-map, get_or-map}
use borrow.Author.Tests.{eq-eqb, ne_eqb}
use Rattle.plan.specs.Packed.{store_depth}
use Rattle.limits.specs.Limits.{no_pair}
use Rattle.calendar.specs.declared.Stamped.{Stamped as Kept}
use Rattle.calendar.specs.Posts.{vacant}
use Rattle.std.specs.Prelude.{Option, None, Some}
use Rattle.results.specs.declared.look.Pair.{Pair}
use Rattle.results.specs.Look.{place_with, places_of}
use Rattle.results.specs.Numbered.{shown_in}
use Rattle.look.specs.Shown.{stored_in}
use Rattle.results.proofs.ShownPlaces.{pair_of, Passed, passed, at_end, at_empty, one_more, placed_more}

-- a place of a store as a place of the array
abbrev pub pair_at : Kept → Pair
pair_at p = record { number = p.number; value = p.value }

abbrev pub place_in : Kept → Option Pair
place_in p = cond (eqb p.number no_pair) None (Some (pair_at p))

-- a store shows the pairs that it has
stored_shown : (kept : List Kept) → shown_in (map place_in kept) ≡ stored_in kept
unfolding stored_in shown_in
stored_shown [] = refl
stored_shown (p ∷ ps) = go (eqb p.number no_pair) (stored_shown ps)
  where
    go : (b : Bool) → shown_in (map place_in ps) ≡ stored_in ps
        → shown_in (cond b None (Some (pair_at p)) ∷ map place_in ps) ≡ cond b [] (pair_of (pair_at p) ∷ stored_in ps)
    go true e = refl
    go false e = rw e

-- the same walk along a store
module _ (kept : List Kept) (k : ℕ) (h : Passed (map place_in kept) k) where
  pub store_end : length kept ≤ k → passed (map place_in kept) k ≡ stored_in kept
  store_end l = (at_end (map place_in kept) k h (omega (arith, length-map kept place_in))).1 ∙ stored_shown kept

  module _ (l : k < length kept) where
    within : k < length (map place_in kept)
    within = omega (arith, length-map kept place_in)

    here : get_or (map place_in kept) k (place_in vacant) ≡ place_in (get_or kept k vacant)
    here = get_or-map place_in kept k vacant

    pub store_empty : (get_or kept k vacant).number ≡ no_pair → passed (map place_in kept) k ≡ stored_in kept
    store_empty e = (at_empty (map place_in kept) k h (place_in vacant) within (rw (here, eq-eqb (get_or kept k vacant).number no_pair e))).1 ∙ stored_shown kept

    module _ (e : (get_or kept k vacant).number ≡ no_pair → ⊥) where
      has : get_or (map place_in kept) k (place_in vacant) ≡ Some (pair_at (get_or kept k vacant))
      has = rw (here, ne_eqb (get_or kept k vacant).number no_pair e)

      pub store_more : Passed (map place_in kept) (k + 1)
      store_more = one_more (map place_in kept) k h (pair_at (get_or kept k vacant)) (place_in vacant) within has

      pub store_placed : k < store_depth → set (places_of (passed (map place_in kept) k)) k (place_with (pair_of (pair_at (get_or kept k vacant)))) ≡ places_of (passed (map place_in kept) (k + 1))
      store_placed r = placed_more (map place_in kept) k h (pair_at (get_or kept k vacant)) (place_in vacant) within has r
