-- `put` meets its contract: no bits, or a field in as many bytes as hold it, or in eight.
use Rattle.bits.proofs.Bits.{bits_zero}
use Rattle.bits.proofs.Written.{wrote_nothing}
use Rattle.bits.proofs.put.Goals as goal

pub returns-then-width-eq0 : goal.returns-then-width-eq0
returns-then-width-eq0 c = let a = c.args in
    rw (c.if-width-eq0.true, bits_zero) (wrote_nothing a.out.now a.at)
