-- `forgeries::all_in` meets its contract: the loop has passed the first i forgeries, and knows the least that may follow.
use mathlib.Core.Bool.{true, ◌&&◌}
use mathlib.Core.Path.{◌≡◌, sym, ◌∙◌}
use native.Mathlib.Nat.{lt_of_lt_of_le}
use native.Mathlib.Omega.{arith}
use lib.Pow.{pow_mono}
use lib.Dec.{leb}
use borrow.Author.Tests.{lt-leb, le-leb}
use Rattle.bits.specs.Field.{field_of}
use Rattle.plan.specs.Form.{most_width}
use Rattle.plan.specs.Header.{forgery_bits, forgery_at}
use Rattle.plan.specs.Shape.{shape}
use Rattle.plan.specs.Steps.{forgery}
use Rattle.plan.specs.Check.{forgery_stands, forgeries_stand}
use Rattle.plan.proofs as plan-laws
use Rattle.forgeries.specs.Steps.{forged_alone}
use Rattle.forgeries.proofs.Forging.{forgery_inside, in_part, forgery_as}
use Rattle.forgeries.proofs.all_in.Goals.{After-field-all, After-of, then-not-stands_alone-via-then-not-stands_alone, then-not-stands_alone-via-else-not-stands_alone+then-all-next}
use Rattle.forgeries.proofs.all_in.Goals as goal

-- the field of the part is the plan's
forged : (c : After-field-all) → c.field-all.result ≡ field_of c.args.plan.now (forgery_at c.args.h.width (shape c.args.h) c.loop-i.i) (forgery_bits c.args.h.width)
forged c = let a = c.args in
    rw c.forgery_bits-bits.ensures at c.field-all.ensures.0 ∙ in_part a.h.width a.plan.now (shape a.h) a.part.now a.offset c.requires.4 c.loop-i.i (forgery_bits a.h.width)

tested : (c : After-of) → forgery_stands c.args.h.width c.args.plan.now (shape c.args.h) c.loop-i.i
    ≡ forged_alone c.args.h.width c.args.plan.now (shape c.args.h) (forgery c.args.h.width c.of.result) && leb c.loop-i.next c.field-all.result
tested c = let a = c.args in
    let all : c.field-all.result ≡ field_of c.args.plan.now (forgery_at c.args.h.width (shape c.args.h) c.loop-i.i) (forgery_bits c.args.h.width) = rw c.forgery_bits-bits.ensures at c.field-all.ensures.0 ∙ in_part a.h.width a.plan.now (shape a.h) a.part.now a.offset c.requires.4 c.loop-i.i (forgery_bits a.h.width) in
    forgery_as a.h.width a.plan.now (shape a.h) c.loop-i.i c.field-all.result c.loop-i.next c.of.result all c.of.ensures c.loop-i.invariant.1

pub loop-i-init : goal.loop-i-init
loop-i-init c = (plan-laws.Laws.all_none _, plan-laws.Waiting.follows_none _)

pub overflow_mul-bits : goal.overflow_mul-bits
overflow_mul-bits c = omega (arith, plan-laws.Sizes.forgeries_few c.forgery_bits-bits.result c.loop-i.i (omega arith) (omega arith))

pub overflow_add-offset : goal.overflow_add-offset
overflow_add-offset c = omega (arith, plan-laws.Sizes.forgeries_few c.forgery_bits-bits.result c.loop-i.i (omega arith) (omega arith), c.requires.4.first)

pub field-all-requires : goal.field-all-requires
field-all-requires c = let a = c.args in
    let p = c.requires in
    let inside = forgery_inside a.h.width a.plan.now (shape a.h) a.part.now a.offset p.4 p.0 c.loop-i.i (omega arith) in
    rw c.forgery_bits-bits.ensures (omega (arith, p.0.narrow), inside.0, omega (arith, inside.1))

pub of-requires : goal.of-requires
of-requires c = (rw c.forgery_bits-bits.ensures at c.field-all.ensures.1, c.requires.0.narrow)

-- one that fails decides
pub returns-then-not-stands_alone : goal.returns-then-not-stands_alone
unfolding forgeries_stand
returns-then-not-stands_alone c = let test = tested (goal.at.returns-then-not-stands_alone c).After-of in
    sym (plan-laws.Laws.all_stop (forgery_stands c.args.h.width c.args.plan.now (shape c.args.h)) c.loop-i.i c.args.h.forgeries (omega arith)
    (elim c.then-not-stands_alone.branch [
      | then-not-stands_alone-via-then-not-stands_alone w ↦ rw (test, ← w.if-not-stands_alone.ensures)
      | then-not-stands_alone-via-else-not-stands_alone+then-all-next w ↦ rw (test, ← w.if-not-stands_alone.ensures, lt-leb _ _ w.if-all-next.true)
    ]))

pub overflow_add-next : goal.overflow_add-next
overflow_add-next c = omega (arith, lt_of_lt_of_le c.field-all.ensures.1 (pow_mono {i = c.forgery_bits-bits.result} {j = forgery_bits most_width} (omega arith)))

pub loop-i-preserved : goal.loop-i-preserved
loop-i-preserved c = let at = goal.at.loop-i-preserved c in
    let stands : forgery_stands c.args.h.width c.args.plan.now (shape c.args.h) c.loop-i.i ≡ true = rw (tested at.After-of, ← c.if-not-stands_alone.ensures, le-leb _ _ c.if-all-next.false) in
    let more = plan-laws.Waiting.follows_more (λ j. field_of c.args.plan.now (forgery_at c.args.h.width (shape c.args.h) j) (forgery_bits c.args.h.width)) c.loop-i.i in
    (plan-laws.Laws.all_more _ _ c.loop-i.invariant.0 stands, rw (forged at.After-field-all) more)

pub returns : goal.returns
unfolding forgeries_stand
returns c = plan-laws.Laws.all_end (forgery_stands c.args.h.width c.args.plan.now (shape c.args.h)) c.loop-i.i c.args.h.forgeries (omega arith) (omega arith) c.loop-i.invariant.0
