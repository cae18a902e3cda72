-- `operations::reads_of` meets its contract. The loop's invariant: the tables have the reads among the operations passed.
use mathlib.Core.Path.{refl, ap}
use native.Mathlib.Omega.{arith}
use lib.ListN.{length-set}
use borrow.Author.Tests.{ne_eqb}
use Rattle.plan.specs.Header.{operation_bits}
use Rattle.plan.specs.Parts.{Operation}
use Rattle.tables.specs.Operations.{op_at}
use Rattle.bits.proofs.Records.{record_inside}
use Rattle.tables.proofs.Storing.{read_stored, read_left, read_in_none}
use Rattle.tables.proofs.operations.reads_of.Goals.{then-o-ne0, else-o-ne0}
use Rattle.tables.proofs.operations.reads_of.Goals as goal

pub loop-i-init : goal.loop-i-init
loop-i-init c = (refl, refl, omega arith, read_in_none _ _ _)

pub operation_of-o-requires : goal.operation_of-o-requires
operation_of-o-requires c = let q = c.requires in
    (omega (arith, q.inside, record_inside (operation_bits c.args.width) c.loop-i.i c.args.count c.loop-i-test.true), q.start, omega (arith, q.few), q.narrow)

pub loop-i-preserved : goal.loop-i-preserved
loop-i-preserved c = let h = c.loop-i in
    let tick = ap (λ (o : Operation). o.at) c.operation_of-o.ensures.is in
    let party = ap (λ (o : Operation). o.party) c.operation_of-o.ensures.is in
    let op = op_at c.args.width c.args.plan.now c.args.at in
    elim c.if-o-ne0.branch [
      | then-o-ne0 w ↦ rw (w.begun-is, w.reader-is, w.m-is, length-set, length-set, tick, party) (
        h.invariant.0,
        h.invariant.1,
        omega arith,
        read_stored op h.i h.begun h.reader h.m h.invariant.3 (rw (← party) (ne_eqb _ 0 w.if-o-ne0.true)) h.invariant.0 h.invariant.1 (omega (arith, c.requires.few)),
      )
      | else-o-ne0 w ↦ rw (w.begun-is, w.reader-is, w.m-is) (h.invariant.0, h.invariant.1, omega arith, read_left op h.i h.begun h.reader h.m h.invariant.3 (rw party at w.if-o-ne0.false))
    ]
