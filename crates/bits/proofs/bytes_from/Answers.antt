use Prim.Native.Nat.{◌+◌, ◌*◌}
use borrow.Author.Rules.{rules}
use native.Mathlib.Omega.{arith}
use Rattle.bits.specs.Field.{field_of}
use Rattle.bits.proofs.Laws.{bytes_more, field_below}
use Rattle.bits.proofs.bytes_from.Goals as goal

pub loop-k-init : goal.loop-k-init
unfolding field_of
loop-k-init c = search rules

pub overflow_mul-acc : goal.overflow_mul-acc
overflow_mul-acc c = omega (arith, field_below c.args.s.now (8 * c.args.b) (8 * c.loop-k.k) 56 (search rules))

pub overflow_add-acc : goal.overflow_add-acc
overflow_add-acc c = let a = c.args in
    let k = c.loop-k.k in
    omega (arith, field_below a.s.now (8 * a.b) (8 * k) 56 (omega arith), c.type_inv.s (a.b + k))

pub loop-k-preserved : goal.loop-k-preserved
loop-k-preserved c = let a = c.args in
    let k = c.loop-k.k in
    let m = bytes_more a.s.now a.b k (omega (arith, c.type_inv.s (a.b + k))) in
    omega (arith, m)
