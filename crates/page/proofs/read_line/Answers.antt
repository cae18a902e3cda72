-- `read_line` meets its contract: the digits of each number end where its cell ends, and the mark is in the last column.
use mathlib.Core.Path.{refl, ◌∙◌}
use Prim.Native.Nat.{ℕ, ◌^◌, ◌≤◌, ◌<◌}
use native.Mathlib.Omega.{arith}
use lib.Dec.{lit≤}
use lib.ListN.{length}
use Rattle.decimal.specs.Decimal.{decimal_of}
use Rattle.decimal.proofs.Aligning.{digits_fit}
use Rattle.plan.specs.Form.{most_width}
use Rattle.page.proofs.Cells.{none_yet, one_more, all_filled}
use Rattle.page.proofs.Rows.{RowFits, row_is}
use Rattle.page.proofs.read_line.Goals.{Start}
use Rattle.page.proofs.read_line.Goals as goal

-- the digits of each number, by its bytes or by what is asked
begin-fits : (c : Start) → length (decimal_of c.args.x.begin) ≤ 3
begin-fits c = digits_fit 3 c.args.x.begin (omega arith) (omega arith)

reader_fits : (c : Start) → length (decimal_of c.args.x.reader) ≤ 1
reader_fits c = digits_fit 1 c.args.x.reader (omega arith) (omega arith)

end_fits : (c : Start) → length (decimal_of c.args.x.end) ≤ 3
end_fits c = digits_fit 3 c.args.x.end (omega arith) (omega arith)

value-fits : (c : Start) → length (decimal_of c.args.x.value) ≤ 10
value-fits c = digits_fit 10 c.args.x.value (omega arith) (omega arith)

number_fits : (c : Start) → length (decimal_of c.args.x.number) ≤ 3
number_fits c = digits_fit 3 c.args.x.number (omega arith) (omega arith)

count_fits : (c : Start) → length (decimal_of c.args.x.count) ≤ 2
count_fits c = digits_fit 2 c.args.x.count (omega arith) (omega arith)

fits : (s : Start) (w : ℕ) → w ≤ most_width → s.args.x.value < 2 ^ w
    → let x = s.args.x in RowFits w x.begin x.reader x.end x.value x.number x.count
fits s w narrow h = record { narrow = narrow; begin_hi = omega arith; reader_hi = omega arith; end_hi = omega arith; value_hi = h; number_hi = omega arith; count_hi = omega arith }

pub put_right-requires : goal.put_right-requires
put_right-requires c = rw c.from.ensures (omega (arith, begin-fits (goal.at.put_right-requires c).Start))

pub put_right-requires-2 : goal.put_right-requires-2
put_right-requires-2 c = rw c.from-2.ensures (omega (arith, reader_fits (goal.at.put_right-requires-2 c).Start))

pub put_right-requires-3 : goal.put_right-requires-3
put_right-requires-3 c = rw c.from-3.ensures (omega (arith, end_fits (goal.at.put_right-requires-3 c).Start))

pub put_right-requires-4 : goal.put_right-requires-4
put_right-requires-4 c = rw c.from-4.ensures (omega (arith, value-fits (goal.at.put_right-requires-4 c).Start))

pub put_right-requires-5 : goal.put_right-requires-5
put_right-requires-5 c = rw c.from-5.ensures (omega (arith, number_fits (goal.at.put_right-requires-5 c).Start))

pub put_right-requires-6 : goal.put_right-requires-6
put_right-requires-6 c = rw c.from-6.ensures (omega (arith, count_fits (goal.at.put_right-requires-6 c).Start))

pub returns : goal.returns
returns c = λ w narrow value_hi.
    let begin = one_more 7 73 none_yet (omega (arith, begin-fits (goal.at.returns c).Start)) refl (rw c.from.ensures at c.put_right.ensures) in
    let reader = one_more 12 61 begin (omega (arith, reader_fits (goal.at.returns c).Start)) refl (rw c.from-2.ensures at c.put_right-2.ensures) in
    let end = one_more 9 52 reader (omega (arith, end_fits (goal.at.returns c).Start)) refl (rw c.from-3.ensures at c.put_right-3.ensures) in
    let value = one_more 14 38 end (omega (arith, value-fits (goal.at.returns c).Start)) refl (rw c.from-4.ensures at c.put_right-4.ensures) in
    let number = one_more 12 26 value (omega (arith, number_fits (goal.at.returns c).Start)) refl (rw c.from-5.ensures at c.put_right-5.ensures) in
    let count = one_more 12 14 number (omega (arith, count_fits (goal.at.returns c).Start)) refl (rw c.from-6.ensures at c.put_right-6.ensures) in
    let marked = one_more 14 0 count (lit≤ tt) c.put_byte.ensures.next_is c.put_byte.ensures in
    all_filled marked ∙ rw c.mark.ensures (row_is (fits (goal.at.returns c).Start w narrow value_hi) c.args.x.marked)
