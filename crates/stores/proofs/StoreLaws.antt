-- Putting a pair into a store, what the pairs are worth then, and comparing two stores. It stands on the definition of insert.
use mathlib.Core.Path.{◌≡◌, refl, sym, ap, ◌∙◌}
use mathlib.Core.Bool.{Bool, true, false, ◌&&◌, ◌||◌}
use mathlib.Core.Logic.{◌⊎◌, inl, inr, ◌≢◌}
use mathlib.Core.List.{List, [], ◌∷◌}
use Prim.Native.Nat.{ℕ, zero, suc, ◌+◌, ◌≤◌, ◌<◌}
use native.Mathlib.Nat.{le_of_suc-le-suc, suc_inj}
use native.Mathlib.Omega.{arith}
use native.Mathlib.Decide.{ℕ_discrete}
use lib.Dec.{eqb}
use lib.ListN.{length, take, drop, get_or, drop_of_length-le}
use lib.Seq.{take_all, take_at, length-take-le, drop-cons}
use borrow.Author.Tests.{lt-ltb, le-ltb, eq-eqb, ne_eqb}
use Rattle.register.specs.Lists.{In, any, member, same_list}
use Rattle.register.specs.Server.{insert}
use Rattle.register.proofs.Logic.{eqb_comm}
use Rattle.register.proofs.Lists.{in_append, in_take}
use Rattle.calendar.specs.declared.Stamped.{Stamped}
use Rattle.limits.specs.Limits.{no_pair}
use Rattle.calendar.specs.Posts.{vacant, among_first, among}
use Rattle.stores.specs.Stores.{keys, place_of, put_at, Faithful, Valued}

either_way : (b : Bool) → (b ≡ true) ⊎ (b ≡ false)
either_way true = inl refl
either_way false = inr refl

-- no pair stands there
abbrev empty : Stamped → Bool
empty p = eqb p.number no_pair

pub no_empty : (p : Stamped) → p.number < no_pair → eqb p.number no_pair ≡ false
no_empty p h = ne_eqb p.number no_pair (λ e. omega arith)

take_keys : (n : ℕ) (ps : List Stamped) → take n (keys ps) ≡ keys (take n ps)
unfolding keys
take_keys zero ps = refl
take_keys (suc n) [] = refl
take_keys (suc n) (p ∷ ps) = elim (either_way (empty p)) [ inl e ↦ rw e | inr e ↦ rw (e, take_keys n ps) ]

-- the numbers posted are those of the pairs kept
pub among_keys : (ps : List Stamped) (j : ℕ) → among ps j ≡ member j (keys ps)
unfolding among_first keys any
among_keys [] j = refl
among_keys (p ∷ ps) j = rw (among_keys ps j, eqb_comm j p.number) (elim (either_way (empty p)) [ inl e ↦ rw e | inr e ↦ rw e ])

-- ---- the places from one on move by one

-- what is carried past the last place is dropped
pub dropped : (n : ℕ) (p : Stamped) (ps : List Stamped) → length ps ≡ n → ps ≡ take n (put_at n p ps)
dropped n p ps e = sym (take_at (take n ps) _ n (length-take-le n ps (omega arith)) ∙ take_all n ps (omega arith))

-- ---- where a pair is put

-- every place before i is higher than p's
abbrev pub Above : Stamped → ℕ → List Stamped → Type 0
Above p i ps = (j : ℕ) → j < i → place_of p < place_of (get_or ps j vacant)

module _ (p : Stamped) (is : eqb p.number no_pair ≡ false) where
  abbrev Put : List Stamped → List Stamped → Type 0
  Put ps rs = insert p.number (keys ps) ≡ keys rs

  at_end : Put [] (p ∷ [])
  unfolding insert keys
  at_end = rw is

  at-lower : (x : Stamped) (ps : List Stamped) → place_of x < place_of p → Put (x ∷ ps) (p ∷ x ∷ ps)
  unfolding insert keys
  at-lower x ps h = elim (either_way (empty x)) [
    | inl e ↦ rw (e, is)
    | inr e ↦ rw (e, is, lt-ltb x.number p.number (le_of_suc-le-suc (rw (e, is) at h)))
  ]

  at_same : (x : Stamped) (ps : List Stamped) → place_of x ≡ place_of p → Put (x ∷ ps) (x ∷ ps)
  unfolding insert keys
  at_same x ps h = elim (either_way (empty x)) [
    | inl e ↦ let z : 0 ≡ suc p.number = rw (e, is) at h in absurd (omega arith)
    | inr e ↦ let z : x.number ≡ p.number = suc_inj (rw (e, is) at h) in rw (e, le-ltb x.number p.number (omega arith), eq-eqb x.number p.number z)
  ]

  -- a higher place is no empty one
  higher : (x : Stamped) → place_of p < place_of x → (empty x ≡ false) × (p.number < x.number)
  higher x h = elim (either_way (empty x)) [
    | inl e ↦ let z : suc p.number < 0 = rw (e, is) at h in absurd (omega arith)
    | inr e ↦ (e, le_of_suc-le-suc (rw (e, is) at h))
  ]

  below : (x : Stamped) (ps rs : List Stamped) → place_of p < place_of x → Put ps rs → Put (x ∷ ps) (x ∷ rs)
  unfolding insert keys
  below x ps rs h q =
      let z = higher x h in
      rw (z.0, le-ltb x.number p.number (omega (arith, z.1)), ne_eqb x.number p.number (λ d. omega (arith, z.1)), q)

  goes_at : (i : ℕ) (ps : List Stamped) → i ≤ length ps → Above p i ps → (i < length ps → place_of (get_or ps i vacant) < place_of p) → Put ps (put_at i p ps)
  goes_at zero [] h a l = at_end
  goes_at zero (x ∷ ps) h a l = at-lower x ps (l (omega arith))
  goes_at (suc i) [] h a l = absurd (omega arith)
  goes_at (suc i) (x ∷ ps) h a l = below x ps _ (a 0 (omega arith)) (goes_at i ps (omega arith) (λ j k. a (suc j) (omega arith)) (λ k. l (omega arith)))

  stands_at : (i : ℕ) (ps : List Stamped) → i < length ps → Above p i ps → place_of (get_or ps i vacant) ≡ place_of p → Put ps ps
  stands_at i [] h a e = absurd (omega arith)
  stands_at zero (x ∷ ps) h a e = at_same x ps e
  stands_at (suc i) (x ∷ ps) h a e = below x ps ps (a 0 (omega arith)) (stands_at i ps (omega arith) (λ j k. a (suc j) (omega arith)) e)

  module _ (n : ℕ) (ps : List Stamped) (size : length ps ≡ n) where
    -- at the first lower place
    pub put_lower : (i : ℕ) → i < n → Above p i ps → place_of (get_or ps i vacant) < place_of p
        → (r : List Stamped) → r ≡ take n (put_at i p ps) → keys r ≡ take n (insert p.number (keys ps))
    put_lower i h a l r e = ap keys e ∙ sym (take_keys n (put_at i p ps)) ∙ ap (take n) (sym (goes_at i ps (omega arith) a (λ k. l)))

    -- nowhere, for it is there
    pub put_same : (i : ℕ) → i < n → Above p i ps → place_of (get_or ps i vacant) ≡ place_of p → keys ps ≡ take n (insert p.number (keys ps))
    put_same i h a e = ap keys (sym (take_all n ps (omega arith))) ∙ sym (take_keys n ps) ∙ ap (take n) (sym (stands_at i ps (omega arith) a e))

    -- nowhere, for all places are higher
    pub put_none : Above p n ps → keys ps ≡ take n (insert p.number (keys ps))
    put_none a =
        ap keys (dropped n p ps size) ∙ sym (take_keys n (put_at n p ps))
        ∙ ap (take n) (sym (goes_at n ps (omega arith) a (λ k. absurd (omega arith))))

-- ---- what the pairs are worth

in_drop : (x : Stamped) (i : ℕ) (ps : List Stamped) → In x (drop i ps) → In x ps
in_drop x zero ps h = h
in_drop x (suc i) [] h = h
in_drop x (suc i) (p ∷ ps) h = inr (in_drop x i ps h)

pub put_valued : (n i : ℕ) (p : Stamped) (ps r : List Stamped) (values : List ℕ) → r ≡ take n (put_at i p ps) → Valued values ps → Faithful values p → Valued values r
put_valued n i p ps r values e v f q h =
    elim (in_append q (take i ps) (p ∷ drop i ps) (in_take q n (put_at i p ps) (rw e at h))) [
      | inl a ↦ v q (in_take q i ps a)
      | inr (inl a) ↦ rw a f
      | inr (inr a) ↦ v q (in_drop q i ps a)
    ]

-- ---- two stores with the same pairs

same_level : (x y : Stamped) (xs ys : List Stamped)
    → eqb x.number y.number && (empty x || same_list (keys xs) (keys ys)) ≡ same_list (keys (x ∷ xs)) (keys (y ∷ ys))
unfolding keys same_list
same_level x y xs ys = elim (ℕ_discrete x.number no_pair) [
  | yes e ↦ elim (ℕ_discrete y.number no_pair) [
    | yes d ↦ rw (eq-eqb x.number no_pair e, eq-eqb y.number no_pair d, eq-eqb x.number y.number (e ∙ sym d))
    | no d ↦ rw (eq-eqb x.number no_pair e, ne_eqb y.number no_pair d, ne_eqb x.number y.number (λ q. d (sym q ∙ e)))
  ]
  | no e ↦ elim (ℕ_discrete y.number no_pair) [
    | yes d ↦ rw (ne_eqb x.number no_pair e, eq-eqb y.number no_pair d, ne_eqb x.number y.number (λ q. e (q ∙ d)))
    | no d ↦ rw (ne_eqb x.number no_pair e, ne_eqb y.number no_pair d)
  ]
]

module _ (a b : List Stamped) where
  -- are they the same from place i on
  abbrev pub same_from : ℕ → Bool
  same_from i = same_list (keys (drop i a)) (keys (drop i b))

  pub same_past : (i : ℕ) → length a ≤ i → length b ≤ i → same_from i ≡ true
  unfolding keys same_list
  same_past i h k = rw (drop_of_length-le a {i = i} h, drop_of_length-le b {i = i} k)

  module _ (i : ℕ) (h : i < length a) (k : i < length b) where
    abbrev x : ℕ
    x = (get_or a i vacant).number

    abbrev y : ℕ
    y = (get_or b i vacant).number

    here : eqb x y && (eqb x no_pair || same_from (suc i)) ≡ same_from i
    here = rw (drop-cons a i vacant h, drop-cons b i vacant k) (same_level (get_or a i vacant) (get_or b i vacant) (drop (suc i) a) (drop (suc i) b))

    pub same_no : x ≢ y → same_from i ≡ false
    same_no d = sym here ∙ rw (ne_eqb x y d)

    pub same_end : x ≡ y → x ≡ no_pair → same_from i ≡ true
    same_end e z = sym here ∙ rw (eq-eqb x y e, eq-eqb x no_pair z)

    pub same_on : x ≡ y → x ≢ no_pair → same_from (i + 1) ≡ same_from i
    same_on e d = let z : i + 1 ≡ suc i = omega arith in rw z (sym (sym here ∙ rw (eq-eqb x y e, ne_eqb x no_pair d)))

pub same_as_itself : (l : List ℕ) → same_list l l ≡ true
unfolding same_list
same_as_itself [] = refl
same_as_itself (x ∷ l) = rw (eq-eqb x x refl) (same_as_itself l)
