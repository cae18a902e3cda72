-- Laws of lists as tables: what holds of each element after a store, the elements of a computed table, and a number that is kept where a test passes.
-- It stands on the library's laws of stores, and on the register's laws of lists.
use mathlib.Core.Path.{◌≡◌}
use mathlib.Core.Bool.{Bool, true, false, cond}
use mathlib.Core.List.{List}
use Prim.Native.Nat.{ℕ, ◌+◌, ◌<◌}
use native.Mathlib.Omega.{arith}
use native.Mathlib.Decide.{ℕ_discrete}
use lib.Dec.{T, eqb, eqb→eq}
use lib.ListN.{length, get_or, set}
use lib.Seq.{get_or-set_same, get_or-set_other}
use Rattle.register.specs.Lists.{In, tab}
use Rattle.register.proofs.Lists.{length_tab_from, get_d_tab}
use Rattle.plan.proofs.Tests.{get_d_in}

-- what holds of the element stored and of each other one holds of each
pub each_stored : (Q : ℕ → ℕ → Type 0) (r : List ℕ) (b v : ℕ) → b < length r → Q b v → ((k : ℕ) → (k ≡ b → ⊥) → Q k (get_or r k 0)) → (k : ℕ) → Q k (get_or (set r b v) k 0)
each_stored Q r b v l q f k = elim (ℕ_discrete k b) [ yes z ↦ rw (z, get_or-set_same r b v 0 l) q | no d ↦ rw (get_or-set_other r b k v 0 d) (f k d) ]

-- what holds at each index passed and of the element stored next holds at one index more
pub each_more : (Q : ℕ → ℕ → Type 0) (r : List ℕ) (b v : ℕ) → b < length r → Q b v → ((k : ℕ) → k < b → Q k (get_or r k 0))
    → (k : ℕ) → k < b + 1 → Q k (get_or (set r b v) k 0)
each_more Q r b v l q f = each_stored (λ k x. k < b + 1 → Q k x) r b v l (λ h. q) (λ k d h. f k (omega arith))

pub tab_in : {A : Type 0} (n : ℕ) (g : ℕ → A) (i : ℕ) → i < n → In (g i) (tab n g)
tab_in n g i l = rw (get_d_tab n g i (g i) l) at (get_d_in (tab n g) i (g i) (rw length_tab_from l))

-- the number that is written where a test passes, else none
pub taken : (j l : ℕ) (c : Bool) → j < 255 → T (eqb j (cond c l 255)) → (j ≡ l) × T c
taken j l true h t = (eqb→eq j l t, tt)
taken j l false h t = absurd (omega (arith, eqb→eq j 255 t))
