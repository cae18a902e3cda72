-- The list functions of the step rules on mapped lists. It stands on the definitions alone.
use mathlib.Core.Path.{◌≡◌, refl, sym, ◌∙◌, ap, ap₂}
use mathlib.Core.Bool.{Bool}
use mathlib.Core.List.{List, [], ◌∷◌, ◌++◌, map, map-append}
use Prim.Native.Nat.{ℕ, zero, suc}
use Rattle.register.specs.Lists.{tab_from, flat, any, filter}
use Rattle.register.proofs.Logic.{cond_ap}

module _ {A B : Type 0} (f : A → B) where
  -- a test of the mapped elements that agrees with one of the elements
  pub any_map : (g : B → Bool) (h : A → Bool) → ((x : A) → g (f x) ≡ h x) → (l : List A) → any g (map f l) ≡ any h l
  unfolding any
  any_map g h e [] = refl
  any_map g h e (x ∷ l) = rw (e x, any_map g h e l)

  pub filter_map : (g : B → Bool) (h : A → Bool) → ((x : A) → g (f x) ≡ h x) → (l : List A) → filter g (map f l) ≡ map f (filter h l)
  unfolding filter
  filter_map g h e [] = refl
  filter_map g h e (x ∷ l) = rw (e x, filter_map g h e l) (sym (cond_ap (map f) (h x) (x ∷ filter h l) (filter h l)))

  flat_map : (n : ℕ) (g : ℕ → List B) (h : ℕ → List A) → ((i : ℕ) → g i ≡ map f (h i)) → flat n g ≡ map f (flat n h)
  unfolding flat
  flat_map zero g h e = refl
  flat_map (suc n) g h e = rw (e n, flat_map n g h e) (sym (map-append f (flat n h) (h n)))

  -- lists in ticks and servers, and one more behind them
  pub flats_map : (t n : ℕ) (g : ℕ → ℕ → List B) (h : ℕ → ℕ → List A) (m : List B) (l : List A) → ((u i : ℕ) → g u i ≡ map f (h u i)) → m ≡ map f l
      → flat t (λ u. flat n (λ i. g u i)) ++ m ≡ map f (flat t (λ u. flat n (λ i. h u i)) ++ l)
  flats_map t n g h m l e d = ap₂ ◌++◌ (flat_map t _ _ (λ u. flat_map n _ _ (e u))) d ∙ sym (map-append f (flat t (λ u. flat n (λ i. h u i))) l)

  pub tab_map : (i n : ℕ) (g : ℕ → B) (h : ℕ → A) → ((b : ℕ) → g b ≡ f (h b)) → tab_from i n g ≡ map f (tab_from i n h)
  unfolding tab_from
  tab_map i zero g h e = refl
  tab_map i (suc n) g h e = rw (e i, tab_map (suc i) n g h e)

module _ {A B C D : Type 0} (f : A → B) (k : B → D) (m : A → C) (j : C → D) (same : (x : A) → k (f x) ≡ j (m x)) where
  -- two maps, by way of B or by way of C
  pub maps_swap : (l : List A) → map k (map f l) ≡ map j (map m l)
  maps_swap [] = refl
  maps_swap (x ∷ l) = rw (same x, maps_swap l)

  -- the elements that pass, by way of B or by way of C
  pub picked_map : (g : B → Bool) (h : A → Bool) → ((x : A) → g (f x) ≡ h x) → (l : List A) → map k (filter g (map f l)) ≡ map j (map m (filter h l))
  picked_map g h e l = ap (map k) (filter_map f g h e l) ∙ maps_swap (filter h l)
