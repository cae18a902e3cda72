use Rattle.bits.proofs.Laws.{nibble_one, nibble_two}
use native.Mathlib.Omega.{arith}
use Prim.Native.Nat.{◌+◌, ◌/◌}
use Rattle.bits.proofs.nibble.Goals as goal

pub returns-then-off-le4 : goal.returns-then-off-le4
returns-then-off-le4 c = let a = c.args in
    (nibble_one a.s.now a.at (omega (arith, c.type_inv.s (a.at / 8))) (omega arith), omega arith)

pub returns-else-off-le4 : goal.returns-else-off-le4
returns-else-off-le4 c = let a = c.args in
    (rw (c.from.ensures, c.from-else-off-le4.ensures) (nibble_two a.s.now a.at (omega (arith, c.type_inv.s (a.at / 8))) (omega (arith, c.type_inv.s (a.at / 8 + 1)))), omega arith)
