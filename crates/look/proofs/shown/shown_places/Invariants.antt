-- `shown::shown_places` meets its contract. The loop's invariant: the places passed have pairs, and the array has these and no other.
use mathlib.Core.Path.{◌≡◌}
use mathlib.Core.List.{map}
use lib.ListN.{length}
use Rattle.plan.specs.Packed.{store_depth}
use Rattle.results.specs.Look.{places_of}
use Rattle.look.proofs.StoredPlaces.{place_in}
use Rattle.results.proofs.ShownPlaces.{Passed, passed}
use Rattle.look.proofs.shown.shown_places.Given as goal

abbrev pub invariant-loop-i : goal.invariant-loop-i
invariant-loop-i l = (length l.kept ≡ store_depth) × Passed (map place_in l.kept) l.i × (l.shown ≡ places_of (passed (map place_in l.kept) l.i))
