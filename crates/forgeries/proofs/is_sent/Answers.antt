-- `forgeries::is_sent` meets its contract: the tick says which placement.
use Prim.Native.Nat.{◌<◌}
use native.Mathlib.Omega.{arith}
use borrow.Author.Tests.{lt-ltb}
use Rattle.std.proofs.lemmas.Grind.{common_steps}
use Rattle.plan.specs.Header.{moves}
use Rattle.plan.specs.Shape.{shape}
use Rattle.plan.proofs.Ranges.{movement_of}
use Rattle.forgeries.proofs.Forging.{placed_is}
use Rattle.forgeries.proofs.is_sent.Goals.{then-at-h, else-at-h}
use Rattle.forgeries.proofs.is_sent.Goals as goal

pub is_faulty-requires : goal.is_faulty-requires
unfolding moves
is_faulty-requires c = let a = c.args in
    let l : a.at < a.h.ticks = grind (arith, common_steps) in
    (c.requires.0, rw c.from.ensures (movement_of a.h.ticks a.at a.h.period (omega arith) l), omega arith)

pub returns-then-from-h : goal.returns-then-from-h
returns-then-from-h c = let a = c.args in
    let l : a.at < a.h.ticks = grind (arith, common_steps) in
    let m : a.from < a.h.n = grind (arith, common_steps) in
    rw (lt-ltb _ _ l, placed_is a.h.width a.plan.now (shape a.h) c.requires.1 a.at a.from l, lt-ltb _ _ m, c.is_faulty.ensures, c.from.ensures, c.from-then-from-h.ensures)

pub returns-else-from-h : goal.returns-else-from-h
returns-else-from-h c = let a = c.args in
    elim c.if-at-h.branch [
      | then-at-h w ↦ rw (lt-ltb _ _ w.if-at-h.true, placed_is a.h.width a.plan.now (shape a.h) c.requires.1 a.at a.from w.if-at-h.true) (grind (arith, common_steps))
      | else-at-h w ↦ grind (arith, common_steps)
    ]
