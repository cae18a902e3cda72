-- `reads::mark` meets its contract: the part of the table is filled.
use mathlib.Core.Path.{◌∙◌}
use native.Mathlib.Omega.{arith}
use borrow.Author.Rules.{rules}
use borrow.Rule.Slice.PartMut.{same_len_mid}
use Rattle.operations.proofs.Spans.{marked_filled}
use Rattle.operations.proofs.reads.mark.Goals as goal

pub returns : goal.returns
returns c = let a = c.args in
    let q = c.requires in (
      same_len_mid _ _ _ _ c.fill.ensures.len ∙ q.0,
      marked_filled a.table.now _ a.x a.from a.to _ q.1 q.2 q.3 q.0 (omega arith) (c.fill.ensures.after (search rules)),
    )
