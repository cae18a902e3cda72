-- `form::width` meets its contract.
use native.Mathlib.Omega.{arith}
use borrow.Author.Tests.{eq-eqb, ne_eqb}
use Rattle.plan.proofs.form.width.Goals as goal

pub returns-then-form-eq-TWO : goal.returns-then-form-eq-TWO
returns-then-form-eq-TWO c = (rw (eq-eqb _ _ c.if-form-eq-TWO.true), omega arith)

pub returns-else-form-eq-TWO : goal.returns-else-form-eq-TWO
returns-else-form-eq-TWO c = (rw (ne_eqb _ _ c.if-form-eq-TWO.false), omega arith)
