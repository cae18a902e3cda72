-- `put_right` meets its contract: the digits of a tenth, if there are any, end one place before the last one. The measure is the number.
use native.Mathlib.Omega.{arith}
use Rattle.decimal.proofs.Aligning.{one_more_digit, some_digit, right_one, right_more}
use Rattle.decimal.proofs.+put_right.Goals.{then-n-ge10, else-n-ge10}
use Rattle.decimal.proofs.+put_right.Goals as goal

pub overflow_sub-end : goal.overflow_sub-end
overflow_sub-end t c = omega (arith, some_digit c.args.n, c.requires)

pub put_right-requires : goal.put_right-requires
put_right-requires t c = (omega arith, omega (arith, c.requires, one_more_digit c.args.n c.if-n-ge10.true))

pub overflow_sub-end-2 : goal.overflow_sub-end-2
overflow_sub-end-2 t c = omega (arith, some_digit c.args.n, c.requires)

pub returns : goal.returns
returns t c = elim c.if-n-ge10.branch [
  | then-n-ge10 w ↦ right_more c.args.n c.args.end w.if-n-ge10.true c.requires w.put_right.ensures (rw w.out-is at c.put_byte.ensures)
  | else-n-ge10 w ↦ right_one c.args.n c.args.end w.if-n-ge10.false c.requires (rw w.out-is at c.put_byte.ensures)
]
