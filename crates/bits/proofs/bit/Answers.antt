-- `bit` meets its contract: a field of one bit.
use mathlib.Core.Path.{sym}
use Rattle.bits.specs.Field.{bit_of}
use Rattle.bits.proofs.Laws.{field_one}
use Rattle.bits.proofs.bit.Goals as goal

pub returns : goal.returns
unfolding bit_of
returns c = let a = c.args in sym (field_one a.s.now a.at)
