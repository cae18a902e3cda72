use mathlib.Core.Path.{◌≡◌}
use Prim.Native.Nat.{◌+◌, ◌-◌, ◌*◌, ◌/◌, ◌^◌}
use borrow.Author.Rules.{rules}
use native.Mathlib.Omega.{arith}
use lib.Pow.{shr-shr}
use Rattle.bits.proofs.Bits.{bits_zero}
use Rattle.bits.proofs.Written.{wrote_nothing, wrote_more}
use Rattle.bits.proofs.put_bytes.Goals as goal

pub loop-k-init : goal.loop-k-init
loop-k-init c = rw bits_zero (wrote_nothing c.args.out.now (8 * c.args.b))

pub loop-k-preserved : goal.loop-k-preserved
loop-k-preserved c = let a = c.args in
    let k = c.loop-k.k in
    let x = a.value / 2 ^ (8 * (a.n - 1 - k)) in
    let above : 8 * (a.n - k) ≡ 8 * (a.n - 1 - k) + 8 = omega arith in
    let same : a.n - (k + 1) ≡ a.n - 1 - k = omega arith in
    rw same (wrote_more a.b k x (search rules) (rw (above, ← shr-shr a.value (8 * (a.n - 1 - k)) 8) at c.loop-k.invariant))
