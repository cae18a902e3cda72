-- `values::values_fit` meets its contract: the first i values are below the limit.
use mathlib.Core.Path.{sym}
use native.Mathlib.Omega.{arith}
use borrow.Author.Tests.{lt-ltb, le-ltb}
use Rattle.plan.proofs.Laws.{all_none, all_more, all_stop, all_end}
use Rattle.carry.proofs.Fields.{below}
use Rattle.carry.proofs.values.values_fit.Goals as goal

pub loop-i-init : goal.loop-i-init
loop-i-init c = all_none _

pub overflow_mul-fields : goal.overflow_mul-fields
overflow_mul-fields c = omega (arith, c.requires.1 c.loop-i.i (omega arith))

pub overflow_add-fields : goal.overflow_add-fields
overflow_add-fields c = omega (arith, c.requires.1 c.loop-i.i (omega arith))

pub field-value-requires : goal.field-value-requires
field-value-requires c = let inside = c.requires.1 c.loop-i.i (omega arith) in
    (omega arith, inside.0, inside.1)

pub returns-then-limit-value : goal.returns-then-limit-value
returns-then-limit-value c = sym (all_stop (let a = c.args in below a.plan.now a.fields.at a.fields.step a.fields.width a.limit) c.loop-i.i c.args.fields.count (omega arith) (rw (← c.field-value.ensures.0) (le-ltb c.field-value.result c.args.limit (omega arith))))

pub loop-i-preserved : goal.loop-i-preserved
loop-i-preserved c = all_more (let a = c.args in below a.plan.now a.fields.at a.fields.step a.fields.width a.limit) c.loop-i.i c.loop-i.invariant (rw (← c.field-value.ensures.0) (lt-ltb c.field-value.result c.args.limit (omega arith)))

pub returns : goal.returns
returns c = all_end (let a = c.args in below a.plan.now a.fields.at a.fields.step a.fields.width a.limit) c.loop-i.i c.args.fields.count (omega arith) (omega arith) c.loop-i.invariant
