-- Laws of tests: conjunctions, disjunctions and choices by a Bool, and strong induction.
-- It stands on nothing of the register.
use mathlib.Core.Path.{◌≡◌, refl}
use mathlib.Core.Bool.{Bool, true, false, not, ◌&&◌, ◌||◌, cond, true≢false, and-eq-true_iff}
use mathlib.Core.Logic.{◌⊎◌, inl, inr}
use Prim.Native.Nat.{ℕ, zero, suc, ◌<◌, max}
use native.Mathlib.Omega.{arith}
use native.Mathlib.Decide.{dec_le}
use lib.Dec.{T, eqb, eqb→eq, eqb_refl}

pub and_l : (a b : Bool) → T (a && b) → T a
and_l true b t = tt
and_l false b t = t

pub and_r : (a b : Bool) → T (a && b) → T b
and_r true b t = t
and_r false b t = absurd t

pub and_i : (a b : Bool) → T a → T b → T (a && b)
and_i true b s t = t
and_i false b s t = s

pub or_e : (a b : Bool) → T (a || b) → T a ⊎ T b
or_e true b t = inl tt
or_e false b t = inr t

pub or_l : (a b : Bool) → T a → T (a || b)
or_l true b t = tt
or_l false b t = absurd t

pub or_r : (a b : Bool) → T b → T (a || b)
or_r true b t = tt
or_r false b t = t

-- a test decides
pub test : (b : Bool) → T b ⊎ T (not b)
test true = inl tt
test false = inr tt

-- a test that passes, or fails, as an equation
pub T_eq : (b : Bool) → T b → b ≡ true
T_eq true t = refl
T_eq false t = absurd t

pub F_eq : (b : Bool) → T (not b) → b ≡ false
F_eq true t = absurd t
F_eq false t = refl

-- two tests that both pass, and two that both fail
pub and_both : (a b : Bool) → a && b ≡ true → (a ≡ true) × (b ≡ true)
and_both a b = (and-eq-true_iff a b).0

pub neither : (a b : Bool) → a || b ≡ false → (a ≡ false) × (b ≡ false)
neither true b e = absurd (true≢false e)
neither false b e = (refl, e)

-- two tests that imply each other are equal
pub T_iff : (a b : Bool) → (T a → T b) → (T b → T a) → a ≡ b
T_iff true true f g = refl
T_iff true false f g = absurd (f tt)
T_iff false true f g = absurd (g tt)
T_iff false false f g = refl

module _ {A : Type 0} where
  -- what holds of both branches holds of the branch taken
  pub cond_e : (Q : A → Type 0) (b : Bool) (x y : A) → (T b → Q x) → (T (not b) → Q y) → Q (cond b x y)
  cond_e Q true x y f g = f tt
  cond_e Q false x y f g = g tt

  pub cond_t : (b : Bool) (x y : A) → T b → cond b x y ≡ x
  cond_t true x y t = refl
  cond_t false x y t = absurd t

  pub cond_f : (b : Bool) (x y : A) → T (not b) → cond b x y ≡ y
  cond_f true x y t = absurd t
  cond_f false x y t = refl

pub cond_ap : {A B : Type 0} (f : A → B) (b : Bool) (x y : A) → f (cond b x y) ≡ cond b (f x) (f y)
cond_ap f true x y = refl
cond_ap f false x y = refl

pub eqb_comm : (a b : ℕ) → eqb a b ≡ eqb b a
eqb_comm a b = T_iff (eqb a b) (eqb b a) (λ t. rw (eqb→eq a b t) (eqb_refl b)) (λ t. rw (eqb→eq b a t) (eqb_refl a))

pub max_cases : (p q : ℕ) → (max p q ≡ p) ⊎ (max p q ≡ q)
max_cases p q = elim (dec_le q p) [ yes h ↦ inl (omega arith) | no h ↦ inr (omega arith) ]

pub strong_induction : (Q : ℕ → Type 0) → ((t : ℕ) → ((u : ℕ) → u < t → Q u) → Q t) → (t : ℕ) → Q t
strong_induction Q f t = below (suc t) t (omega arith)
  where
    below : (m u : ℕ) → u < m → Q u
    below zero u h = absurd (omega arith)
    below (suc m) u h = f u (λ v k. below m v (omega arith))
