-- `write` meets its contract: the fields of an answer over zeros, and the zeros that fill its last byte.
use mathlib.Core.List.{◌++◌}
use mathlib.Core.Path.{◌≡◌, refl}
use native.Mathlib.Omega.{arith}
use lib.ListN.{length, drop}
use borrow.Author.Tests.{le-leb}
use lib.Dec.{lit≤}
use Rattle.bits.proofs.Filling.{fill_units}
use Rattle.records.specs.Records.{no_wider}
use Rattle.answers.specs.Answers.{answer_bits, answer_size}
use Rattle.answers.proofs.Lengths.{answer_inside}
use Rattle.answers.proofs.Stored.{over_length, over_rest, stored}
use borrow.Author.Rules.{rules}
use Rattle.answers.proofs.write.Goals.{After-fill}
use Rattle.answers.proofs.write.Goals as goal

-- the bytes that are lent, with the answer's own zero, are as many, and the others are as they were
sized : (c : After-fill) → length (c.fill.new.self ++ drop c.size.result c.args.out.now) ≡ length c.args.out.now
sized c = over_length _ _ _ c.fill.ensures.len (rw c.size.ensures c.requires.0)

rest : (c : After-fill) → drop (answer_size c.args.width) (c.fill.new.self ++ drop c.size.result c.args.out.now) ≡ drop (answer_size c.args.width) c.args.out.now
rest c = rw (← c.size.ensures) (over_rest _ _ _ c.fill.ensures.len (rw c.size.ensures c.requires.0))

pub put_fields-requires : goal.put_fields-requires
unfolding no_wider
put_fields-requires c = let a = c.args in
    rw c.widths.ensures (rw (le-leb a.width 32 (omega arith)) tt, refl, omega (arith, answer_inside a.width, sized (goal.at.put_fields-requires c).After-fill, c.requires.0), omega arith)

pub put-requires : goal.put-requires
put-requires c = let a = c.args in
    let units = fill_units 8 (answer_bits a.width) (lit≤ tt) in
    let kept = c.put_fields.ensures.size in
    rw (c.fill-2.ensures, c.bits-end.ensures) (omega (arith, sized (goal.at.put-requires c).After-fill, c.requires.0), omega arith, omega arith)

pub returns : goal.returns
returns c = let a = c.args in
    let written = rw (c.widths.ensures, c.from.ensures, c.from-2.ensures, c.from-3.ensures) at c.put_fields.ensures in
    let filled = rw c.fill-2.ensures at c.put.ensures in
    stored a.width a.begun a.reader a.value a.number a.count (omega arith) _ _ _ _ _ (rest (goal.at.returns c).After-fill) (omega arith) written filled
    (λ i. search rules) (λ i. omega (arith, c.type_inv.out i)) (omega (arith, sized (goal.at.returns c).After-fill, c.requires.0))
