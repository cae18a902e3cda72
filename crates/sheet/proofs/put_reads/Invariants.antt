-- `put_reads` meets its contract: after i turns the lines of the first i reads stand.
use mathlib.Core.Path.{◌≡◌}
use lib.ListN.{length}
use Rattle.decimal.specs.Stored.{Stored}
use Rattle.page.specs.Page.{read_lines}
use Rattle.sheet.proofs.put_reads.Given as goal

abbrev pub invariant-loop-i : goal.invariant-loop-i
invariant-loop-i l = (length l.page ≡ length l.initial.page) × Stored l.initial.page l.start (read_lines l.width l.plan l.answers l.i) l.page l.next
