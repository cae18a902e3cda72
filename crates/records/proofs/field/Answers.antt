-- `field` meets its contract: the widths before the field are summed.
use mathlib.Core.Path.{◌≡◌, refl, ◌∙◌}
use Prim.Native.Nat.{ℕ, ◌+◌}
use native.Mathlib.Nat.{add-zero}
use native.Mathlib.Numerals.{add-one}
use native.Mathlib.Omega.{arith}
use lib.ListN.{get_or, take}
use lib.Pow.{pow_mono, pow_pos}
use Rattle.std.proofs.lemmas.List.{length-take-le}
use Rattle.bits.proofs.Prefix.{first, no_longer, told}
use Rattle.bits.specs.Layout.{total}
use Rattle.records.proofs.Underway.{narrow_at, total_next, total_inside, number_behind, no_number}
use Rattle.records.proofs.field.Goals.{After-from}
use Rattle.records.proofs.field.Goals as goal

pub returns-then-widths-i : goal.returns-then-widths-i
returns-then-widths-i c = let a = c.args in (no_number a.widths.now a.s.now a.at a.i c.if-widths-i.true, pow_pos (get_or a.widths.now a.i 0))

pub loop-width-init : goal.loop-width-init
loop-width-init c = (first _ _, rw add-zero refl)

pub overflow_add-from : goal.overflow_add-from
overflow_add-from c = let a = c.args in
    let l = c.loop-width in
    let t = c.loop-width-test.true in
    omega (arith, told a.widths.now l.invariant.0 t, total_inside a.widths.now l.width-index (omega (arith, no_longer a.widths.now l.invariant.0)))

pub loop-width-preserved : goal.loop-width-preserved
loop-width-preserved c = let a = c.args in
    let l = c.loop-width in
    let t = c.loop-width-test.true in
    (l.invariant.0, rw (add-one l.width-index) (omega (arith, told a.widths.now l.invariant.0 t, total_next a.widths.now l.width-index (omega (arith, no_longer a.widths.now l.invariant.0)))))

-- behind the loop
reached : (c : After-from) → c.loop-width.from ≡ c.args.at + total (take c.args.i c.args.widths.now)
reached c = let e : c.loop-width.width-index ≡ c.args.i = omega (arith, length-take-le {A = ℕ}, c.loop-width-test.false) in rw e at c.loop-width.invariant.1

pub field-requires : goal.field-requires
field-requires c = let a = c.args in
    omega (arith, narrow_at 32 a.widths.now a.i c.requires.narrow (omega arith), total_inside a.widths.now a.i (omega arith), reached c)

pub overflow_cast-result : goal.overflow_cast-result
overflow_cast-result c = let a = c.args in
    omega (arith, pow_mono (narrow_at 32 a.widths.now a.i c.requires.narrow (omega arith)), rw c.from.ensures at c.field.ensures.1)

pub returns : goal.returns
returns c = let a = c.args in
    let at : c.loop-width.from ≡ a.at + total (take a.i a.widths.now) = reached (goal.at.returns c).After-from in
    (c.field.ensures.0 ∙ rw (at, c.from.ensures) (number_behind a.widths.now a.s.now a.at a.i (omega arith)), rw c.from.ensures at c.field.ensures.1)
