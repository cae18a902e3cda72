-- `words` meets its contract: each word ends where its cell ends.
use mathlib.Core.Path.{◌∙◌}
use mathlib.Core.List.{map}
use native.Mathlib.Omega.{arith}
use lib.ListN.{get_or-map}
use Rattle.std.proofs.lemmas.List.{length-map}
use Rattle.page.proofs.Cells.{none_yet, has_room, next, each_filled}
use Rattle.page.proofs.words.Goals as goal

pub loop-cell-init : goal.loop-cell-init
loop-cell-init c = none_yet

pub put_word-requires : goal.put_word-requires
put_word-requires c = let ws = c.args.words.now in
    has_room (map (λ word. word.now) ws) (length-map ws (λ word. word.now) ∙ c.told-words) c.requires c.loop-cell.cell c.loop-cell-test.true (get_or-map (λ word. word.now) ws c.loop-cell.cell _)

pub loop-cell-preserved : goal.loop-cell-preserved
loop-cell-preserved c = let ws = c.args.words.now in
    next (map (λ word. word.now) ws) (length-map ws (λ word. word.now) ∙ c.told-words) c.requires c.loop-cell.cell c.loop-cell-test.true (get_or-map (λ word. word.now) ws c.loop-cell.cell _)
    c.loop-cell.invariant c.put_word.ensures

pub returns : goal.returns
returns c = let ws = c.args.words.now in
    each_filled (map (λ word. word.now) ws) (length-map ws (λ word. word.now) ∙ c.told-words) c.loop-cell.cell c.loop-cell.invariant (omega arith)
