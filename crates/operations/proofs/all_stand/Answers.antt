-- `all_stand` meets its contract: the loop has passed the first i operations; two tables say what may follow.
use mathlib.Core.Bool.{true}
use mathlib.Core.Path.{◌≡◌, sym}
use native.Mathlib.Omega.{arith}
use borrow.Author.Tests.{lt-leb, le-leb}
use Rattle.plan.specs.Shape.{shape}
use Rattle.plan.specs.Check.{operation_stands, operations_stand}
use Rattle.plan.proofs.Laws.{all_stop, all_end}
use Rattle.operations.proofs.Passed.{passed_none, stands_as, passed_more}
use Rattle.operations.proofs.all_stand.Goals.{then-not-stands_alone-via-then-not-stands_alone, then-not-stands_alone-via-else-not-stands_alone+then-key-next, then-not-stands_alone-via-else-not-stands_alone+else-key-next+then-o-free}
use Rattle.operations.proofs.all_stand.Goals as goal

pub loop-i-init : goal.loop-i-init
loop-i-init c = passed_none _ _ _

-- one that fails decides
pub returns-then-not-stands_alone : goal.returns-then-not-stands_alone
unfolding operations_stand
returns-then-not-stands_alone c = let tested = stands_as _ _ _ _ _ c.operation_of-o.ensures _ _ c.loop-i.invariant in
    sym (all_stop (operation_stands c.args.h.width c.args.plan.now (shape c.args.h)) c.loop-i.i c.args.h.operations (omega arith)
    (elim c.then-not-stands_alone.branch [
      | then-not-stands_alone-via-then-not-stands_alone w ↦ rw (tested, ← w.if-not-stands_alone.ensures)
      | then-not-stands_alone-via-else-not-stands_alone+then-key-next w ↦ rw (tested, ← w.if-not-stands_alone.ensures, ← c.key-key.ensures, lt-leb _ _ w.if-key-next.true)
      | then-not-stands_alone-via-else-not-stands_alone+else-key-next+then-o-free w ↦
          let early = rw c.from-party.ensures at w.if-o-free.true in
          rw (tested, ← w.if-not-stands_alone.ensures, ← c.key-key.ensures, le-leb _ _ w.if-key-next.false, lt-leb _ _ early)
    ]))

pub loop-i-preserved : goal.loop-i-preserved
loop-i-preserved c = let tested = stands_as _ _ _ _ _ c.operation_of-o.ensures _ _ c.loop-i.invariant in
    let late = le-leb _ _ (rw c.from-party.ensures at c.if-o-free.false) in
    let stands : operation_stands c.args.h.width c.args.plan.now (shape c.args.h) c.loop-i.i ≡ true = rw (tested, ← c.if-not-stands_alone.ensures, ← c.key-key.ensures, le-leb _ _ c.if-key-next.false, late) in
    rw (c.key-key.ensures, c.from-party.ensures) (passed_more _ _ _ _ _ c.operation_of-o.ensures _ _ c.loop-i.invariant stands (omega arith) late c.end.result c.end.ensures.0 (omega arith))

pub returns : goal.returns
unfolding operations_stand
returns c = all_end (operation_stands c.args.h.width c.args.plan.now (shape c.args.h)) c.loop-i.i c.args.h.operations (omega arith) (omega arith) c.loop-i.invariant.stand
