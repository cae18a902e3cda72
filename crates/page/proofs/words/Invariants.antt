-- `words` meets its contract: the cells before the loop's are filled.
use mathlib.Core.List.{map}
use Rattle.page.proofs.Cells.{Begun}
use Rattle.page.proofs.words.Given as goal

abbrev pub invariant-loop-cell : goal.invariant-loop-cell
invariant-loop-cell l = Begun (map (λ word. word.now) l.words) l.line l.cell
