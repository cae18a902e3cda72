-- `put` meets its contract.
use native.Mathlib.Omega.{arith}
use Rattle.nibbles.proofs.Parts.{part_then, part_all}
use Rattle.nibbles.proofs.Numbers.{bits_length}
use Rattle.nibbles.proofs.put.Goals as goal

pub returns : goal.returns
returns c = part_all (bits_length c.args.numbers.now)
    (part_then (omega arith) (omega arith) (omega arith) c.put_pairs.ensures c.put_odd.ensures)
