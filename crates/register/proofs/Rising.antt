-- The step rules look at pairs by order and equality alone: what they do to stores commutes with every strictly rising map of pairs.
-- It stands on the definitions alone.
use mathlib.Core.Path.{◌≡◌, refl, ap}
use mathlib.Core.Bool.{Bool, true, false, cond}
use mathlib.Core.List.{List, [], ◌∷◌, map}
use Prim.Native.Nat.{ℕ, zero, suc, ◌≤◌, ◌<◌}
use native.Mathlib.Omega.{arith}
use native.Mathlib.Decide.{dec_le, ℕ_discrete}
use lib.Dec.{eqb, ltb}
use lib.ListN.{take}
use borrow.Author.Tests.{lt-ltb, le-ltb, eq-eqb, ne_eqb}
use Rattle.register.specs.Lists.{any, member, same_list}
use Rattle.register.specs.Server.{insert}

-- cutting off looks at no pair
pub take_map : (f : ℕ → ℕ) (n : ℕ) (l : List ℕ) → take n (map f l) ≡ map f (take n l)
take_map f zero l = refl
take_map f (suc n) [] = refl
take_map f (suc n) (x ∷ l) = rw (take_map f n l)

module _ (f : ℕ → ℕ) (rising : (p q : ℕ) → p < q → f p < f q) where
  not-falling : (p q : ℕ) → p ≤ q → f p ≤ f q
  not-falling p q h = elim (ℕ_discrete p q) [ yes e ↦ rw e (omega arith) | no d ↦ omega (arith, rising p q (omega arith)) ]

  pub ltb_rising : (p q : ℕ) → ltb (f p) (f q) ≡ ltb p q
  ltb_rising p q = elim (dec_le q p) [
    | yes h ↦ rw (le-ltb p q h, le-ltb (f p) (f q) (not-falling q p h))
    | no h ↦ rw (lt-ltb p q (omega arith), lt-ltb (f p) (f q) (rising p q (omega arith)))
  ]

  pub eqb_rising : (p q : ℕ) → eqb (f p) (f q) ≡ eqb p q
  eqb_rising p q = go (ℕ_discrete p q) (dec_le p q)
    where
      go : Dec (p ≡ q) → Dec (p ≤ q) → eqb (f p) (f q) ≡ eqb p q
      go (yes e) d = rw (eq-eqb p q e, eq-eqb (f p) (f q) (ap f e))
      go (no h) (yes l) = rw (ne_eqb p q h, ne_eqb (f p) (f q) (λ e. omega (arith, rising p q (omega arith))))
      go (no h) (no l) = rw (ne_eqb p q h, ne_eqb (f p) (f q) (λ e. omega (arith, rising q p (omega arith))))

  pub insert_map : (p : ℕ) (l : List ℕ) → insert (f p) (map f l) ≡ map f (insert p l)
  unfolding insert
  insert_map p [] = refl
  insert_map p (x ∷ l) = rw (ltb_rising x p, eqb_rising x p, insert_map p l) (go (ltb x p) (eqb x p))
    where
      go : (a b : Bool) → cond a (f p ∷ f x ∷ map f l) (cond b (f x ∷ map f l) (f x ∷ map f (insert p l))) ≡ map f (cond a (p ∷ x ∷ l) (cond b (x ∷ l) (x ∷ insert p l)))
      go true b = refl
      go false true = refl
      go false false = refl

  pub same_map : (a b : List ℕ) → same_list (map f a) (map f b) ≡ same_list a b
  unfolding same_list
  same_map [] [] = refl
  same_map [] (y ∷ b) = refl
  same_map (x ∷ a) [] = refl
  same_map (x ∷ a) (y ∷ b) = rw (eqb_rising x y, same_map a b)

  pub member_map : (p : ℕ) (l : List ℕ) → member (f p) (map f l) ≡ member p l
  unfolding any
  member_map p [] = refl
  member_map p (x ∷ l) = rw (eqb_rising x p, member_map p l)
