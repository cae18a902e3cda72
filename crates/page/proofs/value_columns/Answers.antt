-- `value_columns` meets its contract: a value of form one, or a wider one.
use borrow.Author.Tests.{le-leb, lt-leb}
use Rattle.plan.specs.Form.{form_one, width_of}
use Rattle.page.proofs.value_columns.Goals as goal

pub returns-then-width : goal.returns-then-width
returns-then-width c = rw (le-leb c.args.width (width_of form_one) (rw c.width.ensures.0 at c.if-width.true))

pub returns-else-width : goal.returns-else-width
returns-else-width c = rw (lt-leb c.args.width (width_of form_one) (rw c.width.ensures.0 at c.if-width.false))
