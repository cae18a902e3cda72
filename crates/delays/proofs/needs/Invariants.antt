-- `needs` meets its contract: the loop has filled the entries below k.
use mathlib.Core.Path.{◌≡◌}
use lib.ListN.{length}
use Rattle.delays.specs.Steps.{most_pairs, Needed}
use Rattle.delays.proofs.needs.Given as goal

abbrev pub invariant-loop-k : goal.invariant-loop-k
invariant-loop-k l = (length l.needs ≡ most_pairs) × Needed l.n l.parties l.k l.needs
