-- A turn of a loop over fields or records: its field is narrow, and its numbers are there.
use mathlib.Core.Path.{◌≡◌}
use mathlib.Core.List.{List}
use Prim.Native.Nat.{ℕ, ◌*◌, ◌≤◌, ◌<◌}
use native.Mathlib.Omega.{arith}
use lib.ListN.{length, drop, length-drop}
use Rattle.bits.proofs.Records.{record_inside}

-- so many records: the numbers of the i-th are there
pub numbers_there : (vs xs : List ℕ) (count : ℕ) → length xs ≡ length vs * count → (i : ℕ) → i < count → length vs ≤ length (drop (length vs * i) xs)
numbers_there vs xs count size i l = rw length-drop (omega (arith, record_inside (length vs) i count l))
