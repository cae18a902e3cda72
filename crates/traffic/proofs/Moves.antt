-- How many of the ticks below H are movements: as many as the plan has placements. It stands on the laws of quotients.
use mathlib.Core.Path.{◌≡◌, refl, sym, ◌∙◌}
use mathlib.Core.Logic.{◌≢◌}
use mathlib.Core.Bool.{Bool, true, false, false≢true}
use Prim.Native.Nat.{ℕ, zero, suc, ◌+◌, ◌*◌, ◌-◌, ◌/◌, ◌%◌, ◌<◌}
use native.Mathlib.Nat.{div-eq_of_lt, div-eq_of_lt-le, div-add-mod', mod-lt}
use native.Mathlib.Omega.{arith}
use lib.Dec.{eqb}
use borrow.Author.Tests.{eqb-true, eq-eqb}
use Rattle.register.specs.Lists.{one_if, count}
use Rattle.register.specs.Plan.{Plan, is_move}

-- one tick more
next : (p H : ℕ) → 0 < p → one_if (eqb (H % p) 0) + (H + (p - 1)) / p ≡ (suc H + (p - 1)) / p
next p H some = go (eqb (H % p) 0) refl
  where
    whole : H / p * p + H % p ≡ H
    whole = div-add-mod' H p

    rest : H % p < p
    rest = mod-lt H some

    up : (suc H + (p - 1)) / p ≡ H / p + 1
    up = div-eq_of_lt-le p (omega (arith, whole, rest)) (omega (arith, whole, rest))

    go : (b : Bool) → eqb (H % p) 0 ≡ b → one_if b + (H + (p - 1)) / p ≡ (suc H + (p - 1)) / p
    go true e =
        let z : H % p ≡ 0 = eqb-true (H % p) 0 e in
        let here : (H + (p - 1)) / p ≡ H / p = div-eq_of_lt-le p (omega (arith, whole)) (omega (arith, whole)) in
        rw (up, here) (omega arith)
    go false e =
        let z : H % p ≢ 0 = (λ z. false≢true (sym e ∙ eq-eqb (H % p) 0 z)) in
        let here : (H + (p - 1)) / p ≡ H / p + 1 = div-eq_of_lt-le p (omega (arith, whole, z)) (omega (arith, whole, rest)) in
        rw (up, here) (omega arith)

pub moves_counted : (P : Plan) (H : ℕ) → 0 < P.period → count (is_move P) H ≡ (H + (P.period - 1)) / P.period
unfolding count is_move
moves_counted P zero some = sym (div-eq_of_lt (omega arith))
moves_counted P (suc H) some = rw (moves_counted P H some) (next P.period H some)
