-- `put_fields` meets its contract.
use Rattle.packing.proofs.Writing.{Writing}
use Rattle.packing.proofs.put_fields.Given as goal

abbrev pub invariant-loop-j : goal.invariant-loop-j
invariant-loop-j l = Writing l.initial.out l.out l.at l.widths l.numbers l.from l.j
