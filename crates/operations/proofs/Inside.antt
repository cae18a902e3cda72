-- Where the operations lie in a plan of the size that its header implies.
-- It stands on what refusals 1 to 4 leave of a plan.
use mathlib.Core.List.{List}
use Prim.Native.Nat.{ℕ, suc, ◌+◌, ◌*◌, ◌≤◌, ◌<◌}
use native.Mathlib.Nat.{mul-le-mul_left}
use native.Mathlib.Omega.{arith}
use lib.ListN.{length}
use Rattle.plan.specs.Header.{Header, operation_bits, operation_at}
use Rattle.plan.specs.Limits.{most_bits}
use Rattle.plan.specs.Shape.{Sized}

pub operation_inside : (w : ℕ) (s : List ℕ) (h : Header) → Sized w s h → (i : ℕ) → i < h.operations
    → (operation_at w h i + operation_bits w ≤ 8 * length s) × (operation_at w h i ≤ most_bits)
operation_inside w s h z i l =
    let m = mul-le-mul_left {m = suc i} {n = h.operations} w l in
    (omega (arith, m, z), omega (arith, m, z))
