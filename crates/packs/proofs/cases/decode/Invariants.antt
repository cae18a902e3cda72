-- `decode` is safe: the room for numbers stays as it is.
use mathlib.Core.Path.{◌≡◌}
use lib.ListN.{length}
use Rattle.packs.proofs.cases.decode.Given as goal

abbrev pub invariant-loop-i : goal.invariant-loop-i
invariant-loop-i l = (length l.numbers ≡ length l.initial.numbers)
