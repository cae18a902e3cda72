-- What fills the last unit, for every unit from 1 on: `fill` does, and no smaller number. Assumes nothing.
use mathlib.Core.Path.{◌≡◌, ◌∙◌, ap, sym}
use Prim.Native.Nat.{ℕ, ◌+◌, ◌*◌, ◌-◌, ◌/◌, ◌%◌, ◌≤◌}
use native.Mathlib.Nat.{add-zero, zero-add, mod-lt, mod-le, mod_self, mod-mod, mod-add-mod, add-mod-mod, div-add-mod, div-eq_of_lt-le}
use native.Mathlib.Omega.{arith}
use Rattle.bits.specs.Fill.{fill, FillsLeast}

-- with it the bits are a multiple of the unit
fill_whole : (unit bits : ℕ) → 1 ≤ unit → (bits + fill unit bits) % unit ≡ 0
fill_whole unit bits h =
    let r = bits % unit in
    let l = mod-lt bits h in
    let e : r + (unit - r) ≡ unit = omega arith in
    add-mod-mod bits (unit - r) unit ∙ sym (mod-add-mod bits unit (unit - r)) ∙ ap (λ (x : ℕ). x % unit) e ∙ mod_self unit

-- every other number that does the same has this remainder
fill_remainder : (unit bits m : ℕ) → 1 ≤ unit → (bits + m) % unit ≡ 0 → m % unit ≡ fill unit bits
fill_remainder unit bits m h e =
    let f = fill unit bits in
    let swap : m + (bits + f) ≡ bits + m + f = omega arith in
    (rw (fill_whole unit bits h, add-zero) at (add-mod-mod m (bits + f) unit))
    ∙ ap (λ (x : ℕ). x % unit) swap
    ∙ sym (rw (e, zero-add) at (mod-add-mod (bits + m) unit f))
    ∙ mod-mod (unit - bits % unit) unit

pub fill_least : (unit bits : ℕ) → 1 ≤ unit → FillsLeast unit bits (fill unit bits)
fill_least unit bits h = record {
  whole = fill_whole unit bits h;
  least = λ m e. rw (← fill_remainder unit bits m h e) (mod-le m unit);
}

-- the units that the bits then have, one after the other
pub fill_units : (unit bits : ℕ) → 1 ≤ unit → unit * ((bits + fill unit bits) / unit) ≡ bits + fill unit bits
fill_units unit bits h = let e = div-add-mod (bits + fill unit bits) unit in rw (fill_whole unit bits h, add-zero) at e

-- they are the bits by the unit, rounded up
pub fill_rounds : (unit bits : ℕ) → 1 ≤ unit → (bits + fill unit bits) / unit ≡ (bits + (unit - 1)) / unit
fill_rounds unit bits h =
    let l = mod-lt (unit - bits % unit) h in
    sym (div-eq_of_lt-le unit (omega (arith, fill_units unit bits h)) (omega (arith, fill_units unit bits h)))
