-- What stands in a buffer after one more pair was stored over it, if it has room.
-- It stands on the definitions and on `sets-eq`.
use mathlib.Core.Path.{◌≡◌, refl, ◌∙◌}
use mathlib.Core.Bool.{Bool, true, false, cond}
use mathlib.Core.List.{List, [], ◌∷◌, ◌++◌}
use Prim.Native.Nat.{ℕ, suc, ◌+◌, ◌*◌, ◌/◌, ◌≤◌, ◌<◌}
use native.Mathlib.Numerals.{add-one}
use native.Mathlib.Omega.{arith}
use lib.Dec.{ltb}
use lib.ListN.{length, drop, get_or, set, length-append, length-drop}
use lib.Seq.{sets as stored_at, sets-eq, take-nil, take_all, length-take-le, take-append-le, take_at, drop-append-add, drop-drop}
use borrow.Author.Tests.{ltb-true, ltb-false}
use Rattle.std.specs.Prelude.{Option, Some}
use Rattle.results.specs.declared.look.Pair.{Pair}
use Rattle.results.specs.Look.{Stamped}
use Rattle.results.specs.Numbered.{shown_in}
use Rattle.results.proofs.ShownPlaces.{pair_of, Passed, passed, passed_more}
use Rattle.codes.specs.Codes.{pair_size, pair_bytes, pairs_over}

-- four stores are `stored_at` of four bytes
pub stored : (l : List ℕ) (at a b c number high mid least : ℕ) → a ≡ high → b ≡ mid → c ≡ least
    → set (set (set (set l at a) (at + 1) b) (at + 2) c) (at + 3) number ≡ stored_at l at (high ∷ mid ∷ least ∷ number ∷ [])
stored l at a b c number high mid least ea eb ec = rw (ea, eb, ec, add-one at, add-two at, add-three at)
  where
    add-two : (n : ℕ) → n + 2 ≡ suc (suc n)
    add-two n = omega arith

    add-three : (n : ℕ) → n + 3 ≡ suc (suc (suc n))
    add-three n = omega arith

-- a buffer with no pair over it is as it was
pub over_none : (l : List ℕ) → pairs_over [] l ≡ l
unfolding pairs_over pair_bytes
over_none l = rw (take-nil (length l / pair_size))

bytes_append : (ps qs : List Stamped) → pair_bytes (ps ++ qs) ≡ pair_bytes ps ++ pair_bytes qs
unfolding pair_bytes
bytes_append [] qs = refl
bytes_append (p ∷ ps) qs = rw (bytes_append ps qs)

length_bytes : (ps : List Stamped) → length (pair_bytes ps) ≡ pair_size * length ps
unfolding pair_bytes
length_bytes [] = refl
length_bytes (p ∷ ps) = omega (arith, length_bytes ps)

drop_past : (b l : List ℕ) (m : ℕ) → drop (length b + m) (b ++ drop (length b) l) ≡ drop (length b + m) l
drop_past b l m = drop-append-add b (drop (length b) l) m ∙ drop-drop m (length b) l

module _ (ps : List Stamped) (p : Stamped) (l : List ℕ) where
  abbrev at : ℕ
  at = pair_size * length ps

  -- no room: nothing changes
  left_out : length l < at + pair_size → pairs_over ps l ≡ pairs_over (ps ++ (p ∷ [])) l
  unfolding pairs_over
  left_out h = let few : length l / pair_size ≤ length ps = omega arith in rw (take-append-le (length l / pair_size) ps (p ∷ []) few)

  module _ (h : at + pair_size ≤ length l) where
    whole : pairs_over ps l ≡ pair_bytes ps ++ drop at l
    unfolding pairs_over
    whole = rw (take_all (length l / pair_size) ps (omega arith), length_bytes ps)

    whole-more : pairs_over (ps ++ (p ∷ [])) l ≡ pair_bytes ps ++ pair_bytes (p ∷ []) ++ drop (at + pair_size) l
    unfolding pairs_over pair_bytes
    whole-more =
        let n : length (ps ++ (p ∷ [])) ≡ suc (length ps) = length-append ps (p ∷ []) ∙ omega arith in
        let e : pair_size * length (ps ++ (p ∷ [])) ≡ at + pair_size = omega arith in
        rw (take_all (length l / pair_size) (ps ++ (p ∷ [])) (omega arith), length_bytes (ps ++ (p ∷ [])), e, bytes_append ps (p ∷ []))

    put_in : stored_at (pairs_over ps l) at (pair_bytes (p ∷ [])) ≡ pairs_over (ps ++ (p ∷ [])) l
    unfolding pair_bytes
    put_in =
        let b : length (pair_bytes ps) ≡ at = length_bytes ps in
        let n : length (pair_bytes ps ++ drop at l) ≡ length l = length-append (pair_bytes ps) (drop at l) ∙ rw (b, length-drop at l) (omega arith) in
        let d : drop (at + pair_size) (pair_bytes ps ++ drop at l) ≡ drop (at + pair_size) l = rw b at (drop_past (pair_bytes ps) l pair_size) in
        rw (whole-more, whole, sets-eq (pair_bytes (p ∷ [])) (pair_bytes ps ++ drop at l) at (omega arith), take_at (pair_bytes ps) (drop at l) at b, d)

  pub over_more : cond (ltb (length l) (at + pair_size)) (pairs_over ps l) (stored_at (pairs_over ps l) at (pair_bytes (p ∷ []))) ≡ pairs_over (ps ++ (p ∷ [])) l
  over_more = go (ltb (length l) (at + pair_size)) refl
    where
      go : (b : Bool) → ltb (length l) (at + pair_size) ≡ b → cond b (pairs_over ps l) (stored_at (pairs_over ps l) at (pair_bytes (p ∷ []))) ≡ pairs_over (ps ++ (p ∷ [])) l
      go true e = left_out (ltb-true (length l) (at + pair_size) e)
      go false e = put_in (ltb-false (length l) (at + pair_size) e)

-- the same of a walk along a store's places
pub put_more : (ps : List (Option Pair)) (k : ℕ) → Passed ps k → (p : Pair) (d : Option Pair) → k < length ps → get_or ps k d ≡ Some p → (l before after : List ℕ)
    → length before ≡ length l → before ≡ pairs_over (passed ps k) l
    → after ≡ cond (ltb (length before) (pair_size * k + pair_size)) before (stored_at before (pair_size * k) (pair_bytes (pair_of p ∷ [])))
    → after ≡ pairs_over (passed ps (k + 1)) l
put_more ps k h p d r e l before after n b a =
    let at : length (passed ps k) ≡ k = length-take-le k (shown_in ps) h.within in
    rw (a, n, b, passed_more ps k h p d r e) (rw at at (over_more (passed ps k) (pair_of p) l))
