use mathlib.Core.Path.{◌≡◌}
use Prim.Native.Nat.{◌+◌, ◌-◌, ◌^◌, ◌<◌}
use native.Mathlib.Omega.{arith}
use lib.Pow.{shl_exact}
use Rattle.bits.proofs.Laws.{one_shl}
use Rattle.bits.proofs.Written.{behind_lt}
use Rattle.bits.proofs.behind.Goals as goal

pub overflow_add-result : goal.overflow_add-result
overflow_add-result c = let a = c.args in
    let h : a.x < 2 ^ (64 - a.width) = omega arith in
    let e : 64 - a.width + a.width ≡ 64 = omega arith in
    rw (shl_exact (64 - a.width) a.width 64 h (omega arith), one_shl a.width 64 (omega arith))
    (omega (arith, rw e at (behind_lt (64 - a.width) a.width a.y h)))

pub returns : goal.returns
returns c = let a = c.args in
    let h : a.x < 2 ^ (64 - a.width) = omega arith in
    rw (shl_exact (64 - a.width) a.width 64 h (omega arith), one_shl a.width 64 (omega arith))
