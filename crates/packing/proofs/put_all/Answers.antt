-- `put_all` meets its contract.
use native.Mathlib.Numerals.{add-one}
use native.Mathlib.Omega.{arith}
use Rattle.register.proofs.Lists.{part_from}
use Rattle.packing.proofs.Writing.{repeat_none, repeat_more}
use Rattle.packing.proofs.put_all.Goals as goal

pub loop-i-init : goal.loop-i-init
loop-i-init c = repeat_none _ _ _ _ _

pub loop-i-preserved : goal.loop-i-preserved
loop-i-preserved c = let a = c.args in
    let l = c.loop-i in
    let w = rw (c.total-bits.ensures, c.joined-all.ensures, part_from) at c.put.ensures in
    rw (add-one l.i) (repeat_more a.widths.now a.numbers.now a.count c.requires.2 l.invariant (omega arith) w)
