-- `store::is_same` meets its contract. The loop's invariant: the stores are the same if they are from place i on.
use mathlib.Core.Path.{◌≡◌}
use Rattle.stores.proofs.StoreLaws.{same_from}
use Rattle.stores.proofs.is_same.Given as goal

abbrev pub invariant-loop-i : goal.invariant-loop-i
invariant-loop-i l = same_from l.a l.b l.i ≡ same_from l.a l.b 0
