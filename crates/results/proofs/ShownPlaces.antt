-- An array is walked from its first place: the pairs passed are the first of those that it shows, and the array of what was passed grows by one.
-- It stands on the definitions alone.
use mathlib.Core.Path.{◌≡◌, refl, sym, ap, ◌∙◌}
use mathlib.Core.List.{List, [], ◌∷◌, ◌++◌, map, map-append}
use Prim.Native.Nat.{ℕ, suc, ◌+◌, ◌-◌, ◌≤◌, ◌<◌}
use native.Mathlib.Numerals.{add-one}
use native.Mathlib.Omega.{arith}
use lib.ListN.{length, take, drop, get_or, set, replicate, length-append, length-drop, length-map, drop_of_length-le}
use lib.Seq.{drop-cons, take-suc, take_all, length-take-le, append_snoc, set_at}
use Rattle.plan.specs.Packed.{store_depth}
use Rattle.std.specs.Prelude.{Option, None, Some}
use Rattle.results.specs.declared.look.Pair.{Pair}
use Rattle.results.specs.Look.{Stamped, place_with, empty_place, places_of}
use Rattle.results.specs.Numbered.{shown_in}

abbrev pub pair_of : Pair → Stamped
pair_of p = record { value = p.value; number = p.number }

-- the first k places have pairs, and these are passed
pub record Passed (ps : List (Option Pair)) (k : ℕ) : Type 0 where
  pub within : k ≤ length (shown_in ps)
  pub rest : drop k (shown_in ps) ≡ shown_in (drop k ps)

pub none_passed : (ps : List (Option Pair)) → Passed ps 0
none_passed ps = record { within = omega arith; rest = refl }

-- the pairs passed so far
abbrev pub passed : List (Option Pair) → ℕ → List Stamped
passed ps k = take k (shown_in ps)

-- one more pair in the array: it takes the first empty place
place_more : (pairs : List Stamped) (p : Stamped) → length pairs < store_depth → set (places_of pairs) (length pairs) (place_with p) ≡ places_of (pairs ++ (p ∷ []))
unfolding places_of
place_more pairs p l =
    let left : store_depth - length pairs ≡ suc (store_depth - suc (length pairs)) = omega arith in
    let less : store_depth - length (pairs ++ (p ∷ [])) ≡ store_depth - suc (length pairs) = omega (arith, length-append pairs (p ∷ [])) in
    rw (left, less, map-append place_with pairs (p ∷ []), append_snoc)
    (set_at (map place_with pairs) empty_place (replicate (store_depth - suc (length pairs)) empty_place) (place_with p) (length pairs) (length-map pairs place_with))

module _ (ps : List (Option Pair)) (k : ℕ) (h : Passed ps k) where
  -- all are passed where no pair is left
  all_passed : shown_in (drop k ps) ≡ [] → (k ≡ length (shown_in ps)) × (passed ps k ≡ shown_in ps)
  all_passed e =
      let l : length (shown_in ps) - k ≡ 0 = sym (length-drop k (shown_in ps)) ∙ ap length (h.rest ∙ e) in
      let at : k ≡ length (shown_in ps) = omega (arith, h.within) in
      (at, take_all k (shown_in ps) (omega arith))

  pub at_end : length ps ≤ k → (k ≡ length (shown_in ps)) × (passed ps k ≡ shown_in ps)
  unfolding shown_in
  at_end l = all_passed (rw (drop_of_length-le ps l))

  pub at_empty : (d : Option Pair) → k < length ps → get_or ps k d ≡ None → (k ≡ length (shown_in ps)) × (passed ps k ≡ shown_in ps)
  unfolding shown_in
  at_empty d l e = all_passed (rw (drop-cons ps k d l, e))

  module _ (p : Pair) (d : Option Pair) (l : k < length ps) (e : get_or ps k d ≡ Some p) where
    first : drop k (shown_in ps) ≡ pair_of p ∷ shown_in (drop (suc k) ps)
    unfolding shown_in
    first = h.rest ∙ rw (drop-cons ps k d l, e)

    inside : k < length (shown_in ps)
    inside = let n : length (shown_in ps) - k ≡ suc (length (shown_in (drop (suc k) ps))) = sym (length-drop k (shown_in ps)) ∙ ap length first in omega arith

    both : pair_of p ∷ shown_in (drop (suc k) ps) ≡ get_or (shown_in ps) k (pair_of p) ∷ drop (suc k) (shown_in ps)
    both = sym first ∙ drop-cons (shown_in ps) k (pair_of p) inside

    pub one_more : Passed ps (k + 1)
    one_more = rw (add-one k) (record { within = inside; rest = cc both })

    pub passed_more : passed ps (k + 1) ≡ passed ps k ++ (pair_of p ∷ [])
    passed_more = let e : get_or (shown_in ps) k (pair_of p) ≡ pair_of p = cc both in rw (add-one k, take-suc (shown_in ps) k (pair_of p) inside, e)

    -- the array of what was passed has it in its first empty place
    pub placed_more : k < store_depth → set (places_of (passed ps k)) k (place_with (pair_of p)) ≡ places_of (passed ps (k + 1))
    placed_more r =
        let n : length (passed ps k) ≡ k = length-take-le k (shown_in ps) h.within in
        rw passed_more (rw n at (place_more (passed ps k) (pair_of p) (omega arith)))
