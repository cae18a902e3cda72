-- `operations::writes_of` meets its contract. The loop's invariant: the tables have the writes among the operations passed. A write more finds a number left.
use mathlib.Core.Path.{refl, ap}
use Prim.Native.Nat.{ℕ, ◌^◌, ◌≤◌, ◌<◌}
use native.Mathlib.Omega.{arith}
use lib.ListN.{get_or, replicate, length-set}
use lib.Pow.{pow_pos}
use borrow.Author.Tests.{ne_eqb}
use borrow.Author.Rules.{rules}
use Rattle.register.proofs.Lists.{get_d_replicate_same}
use Rattle.plan.specs.Header.{operation_bits}
use Rattle.plan.specs.Parts.{Operation}
use Rattle.tables.specs.Operations.{op_at}
use Rattle.bits.proofs.Records.{record_inside}
use Rattle.tables.proofs.Tables.{each_stored}
use Rattle.tables.proofs.Storing.{number_left, write_stored, write_left, written_none}
use Rattle.tables.proofs.operations.writes_of.Goals.{Then-o-eq0, then-o-eq0, else-o-eq0}
use Rattle.tables.proofs.operations.writes_of.Goals as goal

left : (c : Then-o-eq0) → c.loop-i.m ≤ 64
left c = let h = c.loop-i in
    let a = c.args in
    number_left a.width (op_at a.width a.plan.now a.at) h.i _ h.values h.begun h.m h.invariant.2 _ c.loop-i-test.true c.requires.0.writes
    (rw (ap (λ (o : Operation). o.party) c.operation_of-o.ensures.is) at c.if-o-eq0.true)

pub loop-i-init : goal.loop-i-init
loop-i-init c = let a = c.args in
    let some : 0 < 2 ^ a.width = pow_pos a.width in
    let zeros : (j : ℕ) → get_or (replicate 65 0) j 0 < 2 ^ a.width = λ j. rw (get_d_replicate_same {A = ℕ} 65 j 0) some in (
      search rules,
      search rules,
      written_none a.width (op_at a.width a.plan.now a.at) _ _ _ refl
          (each_stored (λ j y. y < 2 ^ a.width) (replicate 65 0) 0 a.initial (search rules) c.requires.1 (λ j d. zeros j)),
    )

pub operation_of-o-requires : goal.operation_of-o-requires
operation_of-o-requires c = let q = c.requires.0 in
    (omega (arith, q.inside, record_inside (operation_bits c.args.width) c.loop-i.i c.args.count c.loop-i-test.true), q.start, omega (arith, q.few), q.narrow)

pub loop-i-preserved : goal.loop-i-preserved
loop-i-preserved c = let h = c.loop-i in
    let a = c.args in
    let tick = ap (λ (o : Operation). o.at) c.operation_of-o.ensures.is in
    let party = ap (λ (o : Operation). o.party) c.operation_of-o.ensures.is in
    let value = ap (λ (o : Operation). o.value) c.operation_of-o.ensures.is in
    let op = op_at a.width a.plan.now a.at in
    elim c.if-o-eq0.branch [
      | then-o-eq0 w ↦ rw (w.values-is, w.begun-is, w.m-is, length-set, length-set, value, tick) (
        h.invariant.0,
        h.invariant.1,
        write_stored a.width op h.i _ h.values h.begun h.m h.invariant.2 _ c.loop-i-test.true c.requires.0.writes (rw party at w.if-o-eq0.true)
            (rw value at c.operation_of-o.ensures.value_hi) h.invariant.0 h.invariant.1,
      )
      | else-o-eq0 w ↦ rw (w.values-is, w.begun-is, w.m-is) (h.invariant.0, h.invariant.1, write_left a.width op h.i _ h.values h.begun h.m h.invariant.2 (rw (← party) (ne_eqb _ 0 w.if-o-eq0.false)))
    ]

pub bounds-values-m : goal.bounds-values-m
bounds-values-m c = let h = left (goal.at.bounds-values-m c).Then-o-eq0 in omega arith

pub bounds-begun-m : goal.bounds-begun-m
bounds-begun-m c = let h = left (goal.at.bounds-begun-m c).Then-o-eq0 in omega arith
