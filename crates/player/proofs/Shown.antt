-- The pairs that stand in a store are the plan's, of the numbers that it has. It stands on the definitions alone.
use mathlib.Core.Path.{◌≡◌, refl}
use mathlib.Core.Logic.{inl, inr}
use mathlib.Core.List.{List, [], ◌∷◌, map}
use Prim.Native.Nat.{ℕ}
use native.Mathlib.Decide.{ℕ_discrete}
use borrow.Author.Tests.{eq-eqb, ne_eqb}
use Rattle.calendar.specs.declared.Stamped.{Stamped}
use Rattle.limits.specs.Limits.{no_pair}
use Rattle.stores.specs.Stores.{keys, pairs_in, Valued}
use Rattle.tables.specs.declared.Known.{Known}
use Rattle.tables.specs.Known.{pair_at}

pub pairs_are : (w : ℕ) (known : Known) (kept : List Stamped) → Valued known.values kept → map (pair_at w known) (keys kept) ≡ pairs_in w kept
unfolding keys pairs_in
pairs_are w known [] h = refl
pairs_are w known (p ∷ ps) h = elim (ℕ_discrete p.number no_pair) [
  | yes e ↦ rw (eq-eqb p.number no_pair e)
  | no d ↦ rw (ne_eqb p.number no_pair d, h p (inl refl) d, pairs_are w known ps (λ q i. h q (inr i)))
]
