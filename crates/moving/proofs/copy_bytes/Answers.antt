-- `copy_bytes` meets its contract: byte behind byte, the first bits are there.
use Prim.Native.Nat.{◌+◌, ◌/◌}
use native.Mathlib.Omega.{arith}
use Rattle.moving.proofs.Moving.{copy_none, byte_more}
use Rattle.moving.proofs.copy_bytes.Goals as goal

pub loop-k-init : goal.loop-k-init
loop-k-init c = copy_none _ _ _ _ _

pub loop-k-preserved : goal.loop-k-preserved
loop-k-preserved c = let l = c.loop-k in
    let before = c.args.at.from / 8 + l.k in
    rw (c.from.ensures, c.from-in-loop-k.ensures)
    (byte_more l.invariant c.requires.0 (omega arith) (omega arith) (omega (arith, c.type_inv.s before)) (omega (arith, c.type_inv.s (before + 1))))
