-- `header::Shape::is_in_range` meets its contract: the tests so far, one join after the other.
use native.Mathlib.Omega.{arith}
use mathlib.Core.Path.{◌≡◌}
use mathlib.Core.Bool.{Bool, ◌&&◌, and_assoc}
use lib.Dec.{leb}
use Rattle.std.proofs.lemmas.Grind.{common_steps}
use Rattle.plan.specs.Check.{header_in_range, within}
use Rattle.plan.proofs.header.Shape.is_in_range.Goals as goal

-- the last test comes behind all others
last : (a b c d e f z : Bool) → a && (b && (c && (d && (e && (f && z))))) ≡ (((((a && b) && c) && d) && e) && f) && z
last a b c d e f z = simp and_assoc

pub returns-then-self-le-MOST_FORGERIES : goal.returns-then-self-le-MOST_FORGERIES
unfolding header_in_range
returns-then-self-le-MOST_FORGERIES c = grind (arith, common_steps)

pub returns-else-self-le-MOST_FORGERIES : goal.returns-else-self-le-MOST_FORGERIES
unfolding header_in_range
returns-else-self-le-MOST_FORGERIES c =
    let h = c.args.self in
    let two : c.if-contains.value ≡ within 1 16 h.n && within 1 15 h.delta = grind (arith, common_steps) in
    let three : c.if-contains-2.value ≡ c.if-contains.value && within h.delta 63 h.period = grind (arith, common_steps) in
    let four : c.if-contains-3.value ≡ c.if-contains-2.value && within 1 4 h.readers = grind (arith, common_steps) in
    let five : c.if-contains-4.value ≡ c.if-contains-3.value && within 1 128 h.ticks = grind (arith, common_steps) in
    let six : c.if-contains-5.value ≡ c.if-contains-4.value && leb h.forgeries 1024 = grind (arith, common_steps) in
    let none = rw (six, five, four, three, two) at c.if-self-le-MOST_FORGERIES.false in
    rw (c.if-self-le-MOST_FORGERIES.false, last, none)
