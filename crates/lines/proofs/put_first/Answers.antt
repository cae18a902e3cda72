-- `put_first` meets its contract: the word, then the number.
use native.Mathlib.Omega.{arith}
use Rattle.decimal.proofs.Stores.{stored_then}
use Rattle.lines.proofs.put_first.Goals as goal

pub returns : goal.returns
returns c = let word = c.put_all-at.ensures in
    let number = c.put_number.ensures in
    record { fact = stored_then word number.fact; r_in_bounds = omega (arith, word.next_is, number.r_bound) }
