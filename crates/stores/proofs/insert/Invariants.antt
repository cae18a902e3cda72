-- `store::insert` meets its contract. The loop's invariant: every place before i is higher than the pair's.
use Rattle.stores.proofs.StoreLaws.{Above}
use Rattle.stores.proofs.insert.Given as goal

abbrev pub invariant-loop-i : goal.invariant-loop-i
invariant-loop-i l = Above l.p l.i l.kept
