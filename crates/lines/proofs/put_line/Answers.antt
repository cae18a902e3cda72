-- `put_line` meets its contract: six numbers, one behind the other.
use native.Mathlib.Omega.{arith}
use Rattle.decimal.proofs.Stores.{stored_then}
use Rattle.lines.specs.Text.{line_with}
use Rattle.lines.specs.Lines.{line_for}
use Rattle.lines.proofs.put_line.Goals as goal

pub returns : goal.returns
unfolding line_for line_with
returns c = let begin = c.put_number-next.ensures in
    let reader = c.put_number-next-2.ensures in
    let end = c.put_number-next-3.ensures in
    let value = c.put_number-next-4.ensures in
    let number = c.put_number-next-5.ensures in
    let count = c.put_number.ensures in record {
      fact = stored_then begin.fact (stored_then reader.fact (stored_then end.fact (stored_then value.fact (stored_then number.fact count.fact))));
      r_bound = omega (arith, begin.r_bound, reader.r_bound, end.r_bound, value.r_bound, number.r_bound, count.r_bound);
    }
