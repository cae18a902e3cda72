-- The first numbers of a list, where only their own length says how many they are: a loop over a part of a slice.
use mathlib.Core.Path.{◌≡◌, refl, sym, ◌∙◌, ap}
use mathlib.Core.List.{List}
use Prim.Native.Nat.{ℕ, ◌≤◌, ◌<◌}
use native.Mathlib.Omega.{arith}
use native.Mathlib.Decide.{dec_le}
use lib.ListN.{length, get_or, take, length-take}
use lib.Seq.{take_all}
use Rattle.std.proofs.lemmas.List.{get_or-take}

pub first : (n : ℕ) (t : List ℕ) → take (length (take n t)) t ≡ take n t
first n t = elim (dec_le n (length t)) [
  | yes h ↦ (let e : length (take n t) ≡ n = omega (arith, length-take n t) in rw e refl)
  | no h ↦ (let e : length (take n t) ≡ length t = omega (arith, length-take n t) in rw (e, take_all (length t) t (omega arith), take_all n t (omega arith)))
]

pub no_longer : (t : List ℕ) {some : List ℕ} → take (length some) t ≡ some → length some ≤ length t
no_longer t {some} e = omega (arith, length-take (length some) t, ap (λ (l : List ℕ). length l) e)

pub told : (t : List ℕ) {some : List ℕ} {x : ℕ} → take (length some) t ≡ some → x < length some → get_or some x 0 ≡ get_or t x 0
told t {some} {x} e h = ap (λ (l : List ℕ). get_or l x 0) (sym e) ∙ get_or-take (length some) t x 0 h
