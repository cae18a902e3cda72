-- Laws of tests over all indices below a bound, of a chain of tests with refusals, and of list members by index.
-- It stands on Laws and on the register's laws of tests.
use mathlib.Core.Path.{◌≡◌, refl}
use mathlib.Core.Bool.{Bool, true, false}
use mathlib.Core.Logic.{inl, inr}
use mathlib.Core.List.{List, [], ◌∷◌}
use Prim.Native.Nat.{ℕ, zero, suc, ◌<◌}
use native.Mathlib.Omega.{arith}
use lib.Dec.{T}
use lib.ListN.{length, get_or}
use Rattle.register.specs.Lists.{In, all_up_to}
use Rattle.register.proofs.Logic.{T_eq}
use Rattle.plan.specs.Check.{Outcome, result, unless}
use Rattle.plan.proofs.Laws as laws

-- a test of all below n holds of each
pub all_at : (n : ℕ) (g : ℕ → Bool) → T (all_up_to n g) → (i : ℕ) → i < n → T (g i)
all_at n g t i l = rw (laws.all_at g n i l (T_eq (all_up_to n g) t)) tt

-- what holds of each holds of all below n
pub all_from : (n : ℕ) (g : ℕ → Bool) → ((i : ℕ) → i < n → T (g i)) → T (all_up_to n g)
all_from n g f = rw (laws.all_from g n (λ i l. T_eq (g i) (f i l))) tt

module _ {A : Type 0} where
  -- a chain with a result passed its first test
  pub passed : (b : Bool) (number : ℕ) (rest : Outcome A) (x : A) → unless b number rest ≡ result x → T b × (rest ≡ result x)
  passed true number rest x e = (tt, e)
  passed false number rest x e = let z : ◌≡◌ {A = ℕ} 0 1 = cc in absurd (omega arith)

  -- an index gives a member, and a member has an index
  pub get_d_in : (l : List A) (i : ℕ) (d : A) → i < length l → In (get_or l i d) l
  get_d_in [] i d h = absurd (omega arith)
  get_d_in (x ∷ l) zero d h = inl refl
  get_d_in (x ∷ l) (suc i) d h = inr (get_d_in l i d (omega arith))

  pub in_get_d : (l : List A) (x d : A) → In x l → (i : ℕ) × (i < length l) × (x ≡ get_or l i d)
  in_get_d [] x d h = absurd h
  in_get_d (y ∷ l) x d (inl e) = (zero, omega arith, e)
  in_get_d (y ∷ l) x d (inr h) = let r = in_get_d l x d h in (suc r.0, omega arith, r.2)
