-- `joined` meets its contract.
use Rattle.packing.proofs.Writing.{Joining}
use Rattle.packing.proofs.joined.Given as goal

abbrev pub invariant-loop-j : goal.invariant-loop-j
invariant-loop-j l = Joining l.widths l.numbers l.acc l.j
