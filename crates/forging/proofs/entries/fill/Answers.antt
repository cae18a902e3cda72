-- `entries::fill` meets its contract. The loop's invariant: the entries passed are the forged messages, and no byte outside them has changed.
use mathlib.Core.Path.{ap, ◌∙◌}
use Prim.Native.Nat.{ℕ}
use native.Mathlib.Omega.{arith}
use Rattle.register.specs.Plan.{Forgery}
use Rattle.register.proofs.Stamped.{value_stamped, number_stamped}
use Rattle.forging.specs.Entries.{number_in, known_number}
use Rattle.forging.proofs.EntryLaws.{filled_more}
use Rattle.forging.proofs.entries.fill.Goals as goal

abbrev at : Forgery → ℕ
at g = g.at

abbrev from : Forgery → ℕ
from g = g.from

abbrev to : Forgery → ℕ
to g = g.to

pub loop-e-preserved : goal.loop-e-preserved
loop-e-preserved c = let h = c.loop-e in
    let w = c.args.part.now.width in
    let E = c.message-g.ensures.0 in
    let g = c.message-g.result in
    let v = c.message-g.ensures.2 in
    let known = rw (value_stamped w g.value g.number v, number_stamped w g.value g.number v) at (ap (known_number w c.args.values.now c.args.m) E) in
    let number = ◌∙◌ {b = number_in c.args.values.now c.args.m g.value g.number} c.known_number.ensures known in
    rw (c.put.ensures, c.delay_of.ensures.0, number, ap at E, ap from E, ap to E)
    (filled_more c.args.work.now h.work h.e _ _ _ h.invariant (omega (arith, c.requires.room, c.requires.messages.few, h.invariant.size)))
