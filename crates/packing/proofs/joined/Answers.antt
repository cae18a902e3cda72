-- `joined` meets its contract.
use native.Mathlib.Nat.{lt_of_lt_of_le}
use native.Mathlib.Numerals.{add-one}
use native.Mathlib.Omega.{arith}
use lib.Pow.{pow_mono}
use Rattle.records.proofs.Underway.{total_inside}
use Rattle.packing.proofs.Writing.{join_none, join_more}
use Rattle.packing.proofs.joined.Goals as goal

pub loop-j-init : goal.loop-j-init
loop-j-init c = join_none _ _

pub behind-acc-requires : goal.behind-acc-requires
behind-acc-requires c = let a = c.args in
    let l = c.loop-j in
    let t = total_inside a.widths.now l.j (omega arith) in
    (omega arith, lt_of_lt_of_le l.invariant.small (pow_mono (omega arith)))

pub loop-j-preserved : goal.loop-j-preserved
loop-j-preserved c = let a = c.args in
    let l = c.loop-j in
    rw (add-one l.j, c.behind-acc.ensures, c.from.ensures, c.from-in-loop-j.ensures) (join_more a.widths.now a.numbers.now (omega arith) l.invariant (omega arith))
