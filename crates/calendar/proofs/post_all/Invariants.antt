-- `post_all` meets its contract. The loop's invariant: the pairs of the places before this one, none of them empty, are in the cells; the span is widened before.
use Prim.Native.Nat.{◌≤◌}
use lib.ListN.{length}
use Rattle.calendar.specs.Posts.{in_row, among_first}
use Rattle.calendar.proofs.Posting.{Filled}
use Rattle.calendar.proofs.Stores.{Full}
use Rattle.calendar.proofs.post_all.Given as goal

abbrev pub invariant-loop-pair : goal.invariant-loop-pair
invariant-loop-pair l = (l.pair-index ≤ length l.pair-items) × Full l.pair-index l.pair-items × Filled l.initial.work l.work (in_row l.row l.i (among_first l.pair-index l.pair-items))
