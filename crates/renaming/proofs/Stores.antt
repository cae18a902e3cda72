-- Lists of pairs under a strictly rising renaming: the highest, each once, and what a store takes in. It stands on register's laws of rising maps.
use mathlib.Core.Path.{◌≡◌, refl, sym, ◌∙◌, ap}
use mathlib.Core.List.{List, [], ◌∷◌, map}
use Prim.Native.Nat.{ℕ, max, ◌≤◌}
use native.Mathlib.Omega.{arith}
use native.Mathlib.Decide.{dec_le, ℕ_discrete}
use lib.ListN.{take}
use Rattle.register.specs.Lists.{member, distinct, highest}
use Rattle.register.specs.Server.{insert, insert_all, take_in}
use Rattle.register.proofs.Logic.{cond_ap}
use Rattle.register.proofs.Rising.{take_map, insert_map, member_map}
use Rattle.renaming.specs.Renaming.{Rising}

module _ (φ : ℕ → ℕ) (rising : Rising φ) where
  pub max_renamed : (p q : ℕ) → max (φ p) (φ q) ≡ φ (max p q)
  max_renamed p q = go (ℕ_discrete p q) (dec_le p q)
    where
      go : Dec (p ≡ q) → Dec (p ≤ q) → max (φ p) (φ q) ≡ φ (max p q)
      go (yes e) d = let m : max q q ≡ q = omega arith in rw (e, m) (omega arith)
      go (no d) (yes l) = let m : max p q ≡ q = omega arith in rw m (omega (arith, rising p q (omega arith)))
      go (no d) (no l) = let m : max p q ≡ p = omega arith in rw m (omega (arith, rising q p (omega arith)))

  pub highest_renamed : (p : ℕ) (qs : List ℕ) → highest (φ p) (map φ qs) ≡ φ (highest p qs)
  unfolding highest
  highest_renamed p [] = refl
  highest_renamed p (q ∷ qs) = ap (λ (x : ℕ). highest x (map φ qs)) (max_renamed p q) ∙ highest_renamed (max p q) qs

  pub distinct_renamed : (l : List ℕ) → distinct (map φ l) ≡ map φ (distinct l)
  unfolding distinct
  distinct_renamed [] = refl
  distinct_renamed (x ∷ l) =
      rw (distinct_renamed l, member_map φ rising x (distinct l)) (sym (cond_ap (map φ) (member x (distinct l)) (distinct l) (x ∷ distinct l)))

  insertAll-renamed : (ps l : List ℕ) → insert_all (map φ ps) (map φ l) ≡ map φ (insert_all ps l)
  unfolding insert_all
  insertAll-renamed [] l = refl
  insertAll-renamed (p ∷ ps) l = ap (insert_all (map φ ps)) (insert_map φ rising p l) ∙ insertAll-renamed ps (insert p l)

  pub take_in_renamed : (depth : ℕ) (ps l : List ℕ) → take_in depth (map φ ps) (map φ l) ≡ map φ (take_in depth ps l)
  unfolding take_in
  take_in_renamed depth ps l = ap (take depth) (insertAll-renamed ps l) ∙ take_map φ depth (insert_all ps l)
