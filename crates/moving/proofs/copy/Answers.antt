-- `copy` meets its contract: three copies, each behind the one before it.
use native.Mathlib.Omega.{arith}
use Rattle.moving.proofs.Moving.{three_copied}
use Rattle.moving.proofs.copy.Goals as goal

pub returns : goal.returns
returns c = let a = c.args in
    let p = c.copy_few-next.ensures.1 in
    let q = c.copy_bytes-next.ensures.1 in
    let r = c.copy_few-2.ensures.1 in
    let join = three_copied a.s.now a.at.from a.bits _ _ _ (p.from, p.to) (q.from, q.to) in
    let all = join c.copy_few-next.ensures.0 c.copy_bytes-next.ensures.0 c.copy_few-2.ensures.0 (omega arith) in
    (all, record { from = omega arith; to = omega arith })
