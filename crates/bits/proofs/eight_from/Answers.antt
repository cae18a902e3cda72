-- `eight_from` meets its contract: the number of the first four bytes, and behind it that of the others.
use mathlib.Core.Path.{◌≡◌}
use Prim.Native.Nat.{◌+◌, ◌*◌}
use native.Mathlib.Omega.{arith}
use Rattle.bits.proofs.Laws.{field_lt, field_split}
use Rattle.bits.proofs.eight_from.Goals as goal

pub overflow_mul-result : goal.overflow_mul-result
overflow_mul-result c = let a = c.args in omega (arith, c.bytes_from.ensures, field_lt a.s.now (8 * a.b) 32)

pub overflow_add-result : goal.overflow_add-result
overflow_add-result c = let a = c.args in
    omega (arith, c.bytes_from.ensures, c.bytes_from-2.ensures, field_lt a.s.now (8 * a.b) 32, field_lt a.s.now (8 * (a.b + 4)) 32)

pub returns : goal.returns
returns c = let a = c.args in
    let e : 8 * (a.b + 4) ≡ 8 * a.b + 32 = omega arith in
    rw (field_split a.s.now (8 * a.b) 32 32, ← e, c.bytes_from.ensures, c.bytes_from-2.ensures)
