-- `rule` meets its contract: as many dashes as each field has columns.
use mathlib.Core.Path.{◌∙◌}
use Prim.Native.Nat.{◌≤◌}
use native.Mathlib.Omega.{arith}
use lib.Dec.{lit≤}
use lib.ListN.{replicate}
use lib.Seq.{length-take-le}
use Rattle.page.specs.Page.{dash, rule}
use Rattle.page.proofs.Rows.{few_columns, dashes_are}
use Rattle.page.proofs.rule.Goals as goal

pub slice_bounds-dashes-end : goal.slice_bounds-dashes-end
slice_bounds-dashes-end c = rw c.value_columns-value.ensures (few_columns c.args.width)

pub words-requires : goal.words-requires
words-requires c = let few : c.value_columns-value.result ≤ 8 = rw c.value_columns-value.ensures (few_columns c.args.width) in
    let some = length-take-le c.value_columns-value.result (replicate 8 dash) few in
    (lit≤ tt, (lit≤ tt, (lit≤ tt, (omega (arith, some), (lit≤ tt, (lit≤ tt, (lit≤ tt, tt)))))))

pub returns : goal.returns
unfolding rule
returns c = c.words.ensures ∙ rw (c.value_columns-value.ensures, dashes_are c.args.width)
