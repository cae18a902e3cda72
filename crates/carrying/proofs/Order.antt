-- Numbers of a high and a low part: their order is that of the high parts, then of the low ones, whatever the width of the low part.
-- It stands on nothing of the plan.
use mathlib.Core.Path.{◌≡◌}
use mathlib.Core.Logic.{◌⊎◌, inl, inr}
use Prim.Native.Nat.{ℕ, ◌+◌, ◌*◌, ◌<◌}
use native.Mathlib.Nat.{mul-le-mul_right}
use native.Mathlib.Decide.{dec_lt}
use native.Mathlib.Omega.{arith}
use lib.Dec.{ltb, ltb→lt, lt→ltb}
use Rattle.register.proofs.Logic.{T_iff}

-- the high part is lower, or it is the same and the low part is
abbrev Before : ℕ → ℕ → ℕ → ℕ → Type 0
Before a x b y = (a < b) ⊎ ((a ≡ b) × (x < y))

module _ (m a x b y : ℕ) where
  pub before_lt : x < m → Before a x b y → a * m + x < b * m + y
  before_lt l (inl h) = omega (arith, mul-le-mul_right m h)
  before_lt l (inr (e, h)) = rw e (omega arith)

  pub lt_before : y < m → a * m + x < b * m + y → Before a x b y
  lt_before l h = elim (dec_lt a b) [
    | yes k ↦ inl k
    | no k ↦ elim (dec_lt b a) [
      | yes j ↦ absurd (omega (arith, mul-le-mul_right m j))
      | no j ↦ (
          let e : a ≡ b = omega arith in
          inr (e, (let g = rw e at h in omega arith))
          )
    ]
  ]

-- the same order with low parts below m and below n
pub same_order : (m n a x b y : ℕ) → x < m → y < m → x < n → y < n → ltb (a * m + x) (b * m + y) ≡ ltb (a * n + x) (b * n + y)
same_order m n a x b y xm ym xn yn =
    T_iff (ltb (a * m + x) (b * m + y)) (ltb (a * n + x) (b * n + y))
    (λ t. lt→ltb _ _ (before_lt n a x b y xn (lt_before m a x b y ym (ltb→lt _ _ t))))
    (λ t. lt→ltb _ _ (before_lt m a x b y xm (lt_before n a x b y yn (ltb→lt _ _ t))))
