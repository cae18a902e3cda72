-- The delays by ticks and rows, as the code walks them, are those of the definition.
-- It stands on the definitions of the plan's parts.
use mathlib.Core.Path.{◌≡◌, ap, fun_ext}
use mathlib.Core.List.{List}
use Prim.Native.Nat.{ℕ, ◌+◌, ◌*◌}
use native.Mathlib.Nat.{add-mul, mul_assoc}
use native.Mathlib.Omega.{arith}
use Rattle.bits.specs.Field.{field_of}
use Rattle.register.specs.Lists.{all_up_to}
use Rattle.plan.specs.Header.{Header, parties, forgery_at}
use Rattle.plan.specs.Parts.{delay_of}
use Rattle.plan.specs.Check.{delay_stands, delays_stand}
use Rattle.delays.specs.Steps.{delay_allowed, row_stands, tick_stands}

place : (a p t i j : ℕ) → a + 4 * (t * (p * p)) + 4 * (i * p) + 4 * j ≡ a + 4 * ((t * p + i) * p + j)
place a p t i j =
    let m = add-mul (t * p) i p in
    let n = mul_assoc t p p in
    omega (arith, m, n)

module _ (w : ℕ) (s : List ℕ) (h : Header) where
  -- the first delay of tick t
  abbrev pub tick_at : ℕ → ℕ
  tick_at t = forgery_at w h h.forgeries + 4 * (t * (parties h * parties h))

  delay_stands_lem : (t i j : ℕ) → delay_allowed h i j (field_of s (tick_at t + 4 * (i * parties h) + 4 * j) 4) ≡ delay_stands w s h t i j
  unfolding delay_stands delay_of
  delay_stands_lem t i j = rw (place (forgery_at w h h.forgeries) (parties h) t i j)

  pub ticks_stand : all_up_to h.ticks (λ t. tick_stands s h (tick_at t)) ≡ delays_stand w s h
  unfolding delays_stand tick_stands row_stands
  ticks_stand =
      ap (all_up_to h.ticks) (fun_ext (λ t. ap (all_up_to (parties h)) (fun_ext (λ i. ap (all_up_to (parties h)) (fun_ext (λ j. delay_stands_lem t i j))))))
