-- `entries::fill` meets its contract. The loop's invariant: the entries passed are the forged messages, and no byte outside them has changed.
use Rattle.forging.specs.Entries.{Filled, known_number}
use Rattle.tables.specs.Forged.{forged_at, forged_delay}
use Rattle.forging.proofs.entries.fill.Given as goal

abbrev pub invariant-loop-e : goal.invariant-loop-e
invariant-loop-e l = Filled l.initial.work l.work l.e (forged_at l.part.width l.part.bytes.now l.part.offset) (λ i. forged_delay l.plan l.links (forged_at l.part.width l.part.bytes.now l.part.offset i)) (λ i. known_number l.part.width l.values l.m (forged_at l.part.width l.part.bytes.now l.part.offset i))
