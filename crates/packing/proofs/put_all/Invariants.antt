-- `put_all` meets its contract.
use Rattle.packing.proofs.Writing.{Repeating}
use Rattle.packing.proofs.put_all.Given as goal

abbrev pub invariant-loop-i : goal.invariant-loop-i
invariant-loop-i l = Repeating l.initial.out l.out l.at l.widths l.numbers l.count l.i
