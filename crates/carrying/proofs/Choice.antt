-- Tests and choices that agree where they count, and tables of the same entries.
-- It stands on nothing of the plan.
use mathlib.Core.Path.{◌≡◌, refl, ap}
use mathlib.Core.Bool.{Bool, true, false, ◌&&◌, cond}
use mathlib.Core.List.{List, ◌∷◌, map}
use Prim.Native.Nat.{ℕ, zero, suc, ◌<◌}
use native.Mathlib.Nat.{zero-add}
use native.Mathlib.Omega.{arith}
use lib.Dec.{T}
use Rattle.register.specs.Lists.{tab, tab_from}
use Rattle.register.proofs.Lists.{tab_last}

-- the second test counts where the first passes
pub and_when : (a x y : Bool) → (T a → x ≡ y) → a && x ≡ a && y
and_when true x y f = f tt
and_when false x y f = refl

module _ {A : Type 0} where
  pub cond_when : (a : Bool) (x y z : A) → (T a → x ≡ y) → cond a x z ≡ cond a y z
  cond_when true x y z f = f tt
  cond_when false x y z f = refl

  pub tab_same : (n : ℕ) (f g : ℕ → A) → ((i : ℕ) → i < n → f i ≡ g i) → tab n f ≡ tab n g
  unfolding tab_from
  tab_same zero f g e = refl
  tab_same (suc n) f g e = rw (tab_last 0 n f, tab_last 0 n g, zero-add n, e n (omega arith), tab_same n f g (λ i l. e i (omega arith)))

module _ {A B : Type 0} where
  map-from : (k : A → B) (a n : ℕ) (f : ℕ → A) → map k (tab_from a n f) ≡ tab_from a n (λ i. k (f i))
  unfolding tab_from
  map-from k a zero f = refl
  map-from k a (suc n) f = ap (λ (l : List B). k (f a) ∷ l) (map-from k (suc a) n f)

  pub map_tab : (k : A → B) (n : ℕ) (f : ℕ → A) → map k (tab n f) ≡ tab n (λ i. k (f i))
  map_tab k n f = map-from k 0 n f
