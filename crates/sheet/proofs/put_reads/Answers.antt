-- `put_reads` meets its contract: after i turns the lines of the first i reads stand.
use mathlib.Core.Path.{refl, ◌∙◌}
use Prim.Native.Nat.{◌<◌}
use native.Mathlib.Numerals.{add-one}
use Rattle.decimal.proofs.Stores.{stored_none, stored_then}
use Rattle.page.specs.Page.{read_lines}
use Rattle.sheet.proofs.put_reads.Goals as goal

pub loop-i-init : goal.loop-i-init
unfolding read_lines
loop-i-init c = (refl, stored_none _ _ refl)

pub loop-i-preserved : goal.loop-i-preserved
unfolding read_lines
loop-i-preserved c = let T = c.of_plan-times.ensures in
    let p = c.put_line-next in
    let more : c.loop-i.i < c.args.count = c.loop-i-test.true in
    let line = c.line_of-line.ensures c.args.plan.now _ c.args.count c.requires.2 more T.tables T.delta_is in
    (p.auto.page ∙ c.loop-i.invariant.0, rw (add-one c.loop-i.i) (stored_then c.loop-i.invariant.1 (rw line at p.ensures)))
