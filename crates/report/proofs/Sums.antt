-- A check sum takes one byte after the other. It stands on the definition alone.
use mathlib.Core.Path.{◌≡◌, refl}
use mathlib.Core.List.{List, [], ◌∷◌, ◌++◌}
use Prim.Native.Nat.{ℕ, ◌+◌, ◌<◌}
use native.Mathlib.Numerals.{add-one}
use lib.ListN.{length, get_or, take}
use lib.Seq.{take-suc}
use Rattle.report.specs.Lent.{sum_with, sum_from}

pub sum_none : (sum : ℕ) → sum_from sum [] ≡ sum
unfolding sum_from
sum_none sum = refl

sum_append : (sum : ℕ) (bytes : List ℕ) (b : ℕ) → sum_from sum (bytes ++ (b ∷ [])) ≡ sum_with (sum_from sum bytes) b
unfolding sum_from
sum_append sum [] b = refl
sum_append sum (x ∷ bytes) b = sum_append (sum_with sum x) bytes b

pub sum_more : (bytes : List ℕ) (i : ℕ) → i < length bytes → sum_from 0 (take (i + 1) bytes) ≡ sum_with (sum_from 0 (take i bytes)) (get_or bytes i 0)
sum_more bytes i l = rw (add-one i, take-suc bytes i 0 l) (sum_append 0 (take i bytes) (get_or bytes i 0))
