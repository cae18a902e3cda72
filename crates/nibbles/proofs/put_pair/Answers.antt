-- `put_pair` meets its contract.
use native.Mathlib.Omega.{arith}
use Rattle.nibbles.specs.Nibbles.{pair_width, pair_of}
use Rattle.nibbles.proofs.Parts.{part_of}
use Rattle.nibbles.proofs.Numbers.{pair_at_lem}
use Rattle.nibbles.proofs.put_pair.Goals as goal

pub returns : goal.returns
returns c = let a = c.args in
    let xs = a.numbers.now in
    part_of pair_width (pair_of xs a.k) (omega arith) (omega arith)
    (rw (c.from.ensures, c.pair.ensures.0) at c.put.ensures)
    (pair_at_lem xs a.k (omega arith))
