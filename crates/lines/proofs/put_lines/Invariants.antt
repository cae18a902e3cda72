-- `put_lines` meets its contract: after i turns the lines of the first i answers stand.
use mathlib.Core.Path.{◌≡◌}
use Prim.Native.Nat.{◌+◌, ◌*◌, ◌≤◌}
use lib.ListN.{length}
use Rattle.decimal.specs.Decimal.{most_digits}
use Rattle.decimal.specs.Stored.{Stored}
use Rattle.lines.specs.Lines.{lines_in}
use Rattle.lines.proofs.put_lines.Given as goal

abbrev pub invariant-loop-i : goal.invariant-loop-i
invariant-loop-i l = (length l.out ≡ length l.initial.out) × (l.at ≤ l.start + 6 * (most_digits + 1) * l.i) × Stored l.initial.out l.start (lines_in l.answers l.span l.i) l.out l.at
