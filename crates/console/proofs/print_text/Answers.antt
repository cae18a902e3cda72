-- `print_text` is safe: the part that it prints is the text.
use mathlib.Core.Path.{sym}
use native.Mathlib.Omega.{arith}
use Prim.Native.Nat.{ℕ}
use lib.ListN.{replicate, length-replicate}
use lib.Seq.{length-take-le}
use Rattle.console.proofs.Laws.{whole_text}
use Rattle.lines.specs.Text.{most_text}
use borrow.Author.Rules.{rules}
use Rattle.console.proofs.print_text.Goals as goal

pub slice_bounds-print_whole-end : goal.slice_bounds-print_whole-end
slice_bounds-print_whole-end g c = sym (length-take-le _ _ (search rules))

pub print_whole-requires : goal.print_whole-requires
print_whole-requires g c = whole_text c.args.plan.now (replicate most_text 0) c.write-size.ensures.out_after (omega (arith, length-replicate {A = ℕ} most_text 0))
