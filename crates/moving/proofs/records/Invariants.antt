-- `records` meets its contract: record behind record, the first are there.
use Rattle.moving.proofs.Moving.{Following}
use Rattle.moving.proofs.records.Given as goal

abbrev pub invariant-loop : goal.invariant-loop
invariant-loop l = Following l.initial.out l.out l.wanted l.s l.had l.initial.next.from l.initial.next.to l.count l.next.from l.next.to l.counter
