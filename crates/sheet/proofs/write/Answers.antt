-- `write` meets its contract: heading, rule, the lines of the reads and the closing line, one behind the other.
use mathlib.Core.Path.{◌≡◌, ap, ◌∙◌}
use native.Mathlib.Omega.{arith}
use lib.Dec.{lit≤}
use lib.ListN.{length}
use Rattle.decimal.proofs.Stores.{stored_as, stored_then}
use Rattle.fitting.proofs.Decoded.{few_answers}
use Rattle.page.specs.Page.{line_columns}
use Rattle.page.proofs.Rows.{heading_length, rule_length}
use Rattle.page.proofs.Lines.{lines_length}
use Rattle.sheet.proofs.Pages.{line_next, page_is}
use Rattle.sheet.proofs.write.Goals.{After-heading-heading, After-rule-rule}
use Rattle.sheet.proofs.write.Goals as goal

-- heading and rule have 80 characters
heading-wide : (c : After-heading-heading) → length c.heading-heading.result ≡ line_columns
heading-wide c = ap length c.heading-heading.ensures ∙ heading_length

rule-wide : (c : After-rule-rule) → length c.rule-rule.result ≡ line_columns
rule-wide c = ap length c.rule-rule.ensures ∙ rule_length _

pub put_line-requires : goal.put_line-requires
put_line-requires c = let first = line_next c.heading-heading.result (heading-wide (goal.at.put_line-requires c).After-heading-heading) c.put_line-next.ensures in
    let second = line_next c.rule-rule.result (rule-wide (goal.at.put_line-requires c).After-rule-rule) c.put_line-next-2.ensures in
    let few = few_answers c.args.width _ c.args.count c.requires.1.checked in
    let long = lines_length c.args.width c.args.plan.now c.args.answers.now c.requires.0 c.args.count in
    (omega (arith, first, second, few, long, c.put_reads-next.ensures.next_is), lit≤ tt)

pub returns : goal.returns
returns c = let first = rw c.heading-heading.ensures at c.put_line-next.ensures in
    let second = rw c.rule-rule.ensures at c.put_line-next-2.ensures in
    let reads = c.put_reads-next.ensures in
    let last = c.put_line.ensures in
    stored_as (page_is c.args.width _ _ c.args.count c.requires.0 c.requires.1) (stored_then (stored_then first second) (stored_then reads last))
