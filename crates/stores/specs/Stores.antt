-- A store apart from how it is kept: the list of its pairs' numbers; and what its pairs are worth.
use Rattle.std.specs.Prelude.{◌≡◌, cond, List, [], ◌∷◌, ◌++◌, ℕ, suc, eqb, take, drop, get_or}
use Rattle.register.specs.Lists.{In}
use Rattle.register.specs.Plan.{stamped}
use Rattle.calendar.specs.declared.Stamped.{Stamped}
use Rattle.limits.specs.Limits.{no_pair}

-- the numbers of the pairs before the first empty place
unfoldable pub keys : List Stamped → List ℕ
keys [] = []
keys (p ∷ ps) = cond (eqb p.number no_pair) [] (p.number ∷ keys ps)

-- a place as a number: 0 is empty
abbrev pub place_of : Stamped → ℕ
place_of p = cond (eqb p.number no_pair) 0 (suc p.number)

-- the places with one more before place i
abbrev pub put_at : ℕ → Stamped → List Stamped → List Stamped
put_at i p ps = take i ps ++ (p ∷ drop i ps)

-- a pair has the value that stands under its number
abbrev pub Faithful : List ℕ → Stamped → Type 0
Faithful values p = (p.number ≡ no_pair → ⊥) → p.value ≡ get_or values p.number 0

-- each pair of a store has
abbrev pub Valued : List ℕ → List Stamped → Type 0
Valued values kept = (p : Stamped) → In p kept → Faithful values p

-- the pairs before the first empty place, of values of w bits
unfoldable pub pairs_in : ℕ → List Stamped → List ℕ
pairs_in w [] = []
pairs_in w (p ∷ ps) = cond (eqb p.number no_pair) [] (stamped w p.value p.number ∷ pairs_in w ps)
