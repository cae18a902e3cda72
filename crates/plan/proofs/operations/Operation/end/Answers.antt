-- `operations::Operation::end` meets its contract.
use native.Mathlib.Omega.{arith}
use borrow.Author.Tests.{eq-eqb, ne_eqb}
use Rattle.plan.specs.Check.{end_of}
use Rattle.plan.proofs.operations.Operation.end.Goals as goal

pub returns-then-self-eq0 : goal.returns-then-self-eq0
unfolding end_of
returns-then-self-eq0 c = (rw (eq-eqb _ _ c.if-self-eq0.true), omega arith, omega arith)

pub returns-else-self-eq0 : goal.returns-else-self-eq0
unfolding end_of
returns-else-self-eq0 c = (rw (ne_eqb _ _ c.if-self-eq0.false), omega arith, omega arith)
