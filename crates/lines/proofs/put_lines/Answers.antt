-- `put_lines` meets its contract: after i turns the lines of the first i answers stand.
use mathlib.Core.Path.{◌≡◌, refl, ◌∙◌}
use native.Mathlib.Numerals.{add-one}
use native.Mathlib.Omega.{arith}
use borrow.Author.Rules.{rules}
use Rattle.decimal.proofs.Stores.{stored_as, stored_none, stored_then}
use Rattle.plan.proofs.Longest.{most_reads_lem}
use Rattle.plan.proofs.Accept.{header_there, playable}
use Rattle.lines.specs.Text.{program_width}
use Rattle.lines.specs.Lines.{lines_in}
use Rattle.lines.proofs.Lines.{span_few, all_lines}
use Rattle.lines.proofs.put_lines.Goals as goal

pub read-shape-requires : goal.read-shape-requires
read-shape-requires c = (rw c.width.ensures.0 (header_there program_width _ (playable program_width _ _ c.requires.1)), c.width.ensures.1)

pub loop-i-init : goal.loop-i-init
unfolding lines_in
loop-i-init c = (refl, search rules, stored_none _ _ refl)

pub put_line-at-requires : goal.put_line-at-requires
put_line-at-requires c = let few = most_reads_lem program_width _ _ c.requires.1 in
    (search rules, c.read.ensures.1, omega (arith, span_few _ _ c.requires.1 c.read-shape.result (rw c.width.ensures.0 at c.read-shape.ensures.0)))

pub loop-i-preserved : goal.loop-i-preserved
unfolding lines_in
loop-i-preserved c = (
  c.put_line-at.auto.out ∙ c.loop-i.invariant.0,
  omega (arith, c.loop-i.invariant.1, c.put_line-at.ensures.r_bound),
  rw (add-one c.loop-i.i) (stored_then c.loop-i.invariant.2 (rw c.read.ensures.0 at c.put_line-at.ensures.fact)),
)

pub returns : goal.returns
returns c = let all : c.loop-i.i ≡ c.args.count = omega arith in
    stored_as (all_lines _ _ c.requires.1 c.read-shape.result (rw c.width.ensures.0 at c.read-shape.ensures.0) _ _ c.requires.2 all) (rw c.from-span.ensures at c.loop-i.invariant.2)
