-- `field` meets its contract: no bits, or a field in as many bytes as hold it, or in eight.
use mathlib.Core.Path.{refl, sym}
use native.Mathlib.Omega.{arith}
use lib.Dec.{lit<}
use Rattle.bits.proofs.Laws.{field_zero, field_lt, field_cut}
use Rattle.bits.proofs.field.Goals as goal

pub returns-then-width-eq0 : goal.returns-then-width-eq0
returns-then-width-eq0 c = let a = c.args in
    rw c.if-width-eq0.true (sym (field_zero a.s.now a.at), lit< tt)

pub returns-then-s-first : goal.returns-then-s-first
returns-then-s-first c = let a = c.args in
    let n = c.bytes_for-n in
    rw (c.part.ensures.0, c.bytes_from.ensures, field_cut a.s.now a.at a.width n.result (omega (arith, n.ensures)))
    (refl, field_lt a.s.now a.at a.width)

pub returns-else-s-first : goal.returns-else-s-first
returns-else-s-first c = let a = c.args in
    rw (c.part-else-s-first.ensures.0, c.eight_from.ensures, field_cut a.s.now a.at a.width 8 (omega arith))
    (refl, field_lt a.s.now a.at a.width)
