-- `store::is_same` meets its contract. The loop's invariant: the stores are the same if they are from place i on.
use mathlib.Core.Path.{sym, ◌∙◌}
use native.Mathlib.Omega.{arith}
use Rattle.stores.proofs.StoreLaws.{same_past, same_no, same_end, same_on}
use Rattle.stores.proofs.is_same.Goals as goal

pub returns-then-a-i : goal.returns-then-a-i
returns-then-a-i c = let l = c.loop-i in
    let t = c.loop-i-test.true in sym (same_no c.args.a c.args.b l.i (omega (arith, t)) (omega (arith, t)) c.if-a-i.true) ∙ l.invariant

pub returns-then-a-i-2 : goal.returns-then-a-i-2
returns-then-a-i-2 c = let l = c.loop-i in
    let t = c.loop-i-test.true in sym (same_end c.args.a c.args.b l.i (omega (arith, t)) (omega (arith, t)) c.if-a-i.false c.if-a-i-2.true) ∙ l.invariant

pub loop-i-preserved : goal.loop-i-preserved
loop-i-preserved c = let l = c.loop-i in
    let t = c.loop-i-test.true in same_on c.args.a c.args.b l.i (omega (arith, t)) (omega (arith, t)) c.if-a-i.false c.if-a-i-2.false ∙ l.invariant

pub returns : goal.returns
returns c = let l = c.loop-i in
    let t = c.loop-i-test.false in sym (same_past c.args.a c.args.b l.i (omega (arith, t)) (omega (arith, t))) ∙ l.invariant
