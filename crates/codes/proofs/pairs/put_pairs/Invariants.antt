-- `put_pairs` meets its contract. The loop's invariant: the pairs of the places passed stand over the buffer, as far as they fit.
use mathlib.Core.Path.{◌≡◌}
use lib.ListN.{length}
use Rattle.results.proofs.ShownPlaces.{Passed, passed}
use Rattle.codes.specs.Codes.{pairs_over}
use Rattle.codes.proofs.pairs.put_pairs.Given as goal

abbrev pub invariant-loop-i : goal.invariant-loop-i
invariant-loop-i l = Passed l.places l.i × (length l.out ≡ length l.initial.out) × (l.out ≡ pairs_over (passed l.places l.i) l.initial.out)
