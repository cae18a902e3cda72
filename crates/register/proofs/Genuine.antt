-- Genuine pairs: the initial pair, and those whose writing has begun. A genuine pair stays genuine, and comes from a write.
-- It stands on Lists and on Good's `initial_least`.
use mathlib.Core.Path.{◌≡◌}
use mathlib.Core.Bool.{Bool, ◌&&◌}
use mathlib.Core.Logic.{◌⊎◌, inl, inr}
use Prim.Native.Nat.{ℕ, ◌≤◌, ◌<◌}
use native.Mathlib.Omega.{arith}
use lib.Dec.{T, ltb, eqb, eqb→eq, eqb_refl, ltb→lt, lt→ltb}
use Rattle.register.specs.Lists.{any, In}
use Rattle.register.specs.Plan.{Write, Plan}
use Rattle.register.specs.Regular.{has_begun}
use Rattle.register.proofs.Logic.{and_l, and_r, and_i, or_e, or_l, or_r}
use Rattle.register.proofs.Lists.{any_in, in_any}

-- p is genuine at tick t
abbrev pub Genuine : Plan → ℕ → ℕ → Type 0
Genuine P t p = T (has_begun P t p)

module _ (P : Plan) where
  pub genuine_initial : (t : ℕ) → Genuine P t P.initial
  unfolding has_begun
  genuine_initial t = or_l (eqb P.initial P.initial) _ (eqb_refl P.initial)

  pub genuine_write : (t : ℕ) (w : Write) → In w P.writes → w.begun < t → Genuine P t w.pair
  unfolding has_begun
  genuine_write t w i l =
      or_r (eqb w.pair P.initial) _ (in_any (λ v. eqb v.pair w.pair && ltb v.begun t) w P.writes i
      (and_i (eqb w.pair w.pair) (ltb w.begun t) (eqb_refl w.pair) (lt→ltb w.begun t l)))

  pub genuine_cases : (t p : ℕ) → Genuine P t p → (p ≡ P.initial) ⊎ ((w : Write) × In w P.writes × (w.pair ≡ p) × (w.begun < t))
  unfolding has_begun
  genuine_cases t p g = go (or_e (eqb p P.initial) (any begun P.writes) g)
    where
      begun : Write → Bool
      begun w = eqb w.pair p && ltb w.begun t

      go : T (eqb p P.initial) ⊎ T (any begun P.writes)
          → (p ≡ P.initial) ⊎ ((w : Write) × In w P.writes × (w.pair ≡ p) × (w.begun < t))
      go (inl e) = inl (eqb→eq p P.initial e)
      go (inr h) =
          let r = any_in begun P.writes h in
          inr (
            r.0,
            r.1,
            eqb→eq r.0.pair p (and_l (eqb r.0.pair p) (ltb r.0.begun t) r.2),
            ltb→lt r.0.begun t (and_r (eqb r.0.pair p) (ltb r.0.begun t) r.2),
          )

  pub genuine_mono : (t u p : ℕ) → t ≤ u → Genuine P t p → Genuine P u p
  genuine_mono t u p l g = go (genuine_cases t p g)
    where
      go : (p ≡ P.initial) ⊎ ((w : Write) × In w P.writes × (w.pair ≡ p) × (w.begun < t)) → Genuine P u p
      go (inl e) = rw e (genuine_initial u)
      go (inr (w, i, e, h)) = rw e at (genuine_write u w i (omega arith))

  -- a genuine pair above the initial one is that of a write
  pub genuine_above : (t p q : ℕ) → P.initial ≤ p → Genuine P t q → p < q → (w : Write) × In w P.writes × (w.pair ≡ q) × (w.begun < t)
  genuine_above t p q lo g h = elim (genuine_cases t q g) [ inl e ↦ absurd (omega arith) | inr w ↦ w ]
