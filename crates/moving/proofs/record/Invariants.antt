-- `record` meets its contract: field behind field, the first numbers are there.
use Rattle.moving.proofs.Moving.{Moving}
use Rattle.moving.proofs.record.Given as goal

abbrev pub invariant-loop-j : goal.invariant-loop-j
invariant-loop-j l = Moving l.initial.out l.out l.wanted l.s l.had l.initial.from l.initial.to l.from l.to l.j
