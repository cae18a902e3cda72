-- `span_of` meets its contract. The loop's invariant: low and high are the span of the places before this one, none of them empty.
use Prim.Native.Nat.{◌≤◌}
use lib.ListN.{length}
use Rattle.calendar.specs.Posts.{among_first, SpanOf}
use Rattle.calendar.proofs.Stores.{Full}
use Rattle.calendar.proofs.span_of.Given as goal

abbrev pub invariant-loop-p : goal.invariant-loop-p
invariant-loop-p l = (l.p-index ≤ length l.p-items) × Full l.p-index l.p-items × SpanOf (among_first l.p-index l.p-items) l.low l.high
