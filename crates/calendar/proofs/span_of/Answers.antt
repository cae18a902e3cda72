-- `span_of` meets its contract. The loop's invariant: low and high are the span of the places before this one, none of them empty.
use mathlib.Core.Path.{◌≡◌}
use Prim.Native.Nat.{◌<◌}
use native.Mathlib.Omega.{arith}
use lib.ListN.{length}
use Rattle.calendar.proofs.Stores.{full_more, span_first, span_turn, span_skip, span_stop}
use Rattle.calendar.proofs.span_of.Goals.{then-from-lt-PLACES, else-from-lt-PLACES}
use Rattle.calendar.proofs.span_of.Goals as goal

pub loop-p-init : goal.loop-p-init
loop-p-init c = (omega arith, λ q h. absurd (omega arith), span_first c.args.kept)

pub returns-then-p : goal.returns-then-p
returns-then-p c = let ps = c.args.kept in
    let l = c.loop-p in
    span_stop ps l.p-index (length ps) l.invariant.1 l.invariant.0 c.if-p.true _ _ l.invariant.2

pub loop-p-preserved : goal.loop-p-preserved
loop-p-preserved c = let ps = c.args.kept in
    let l = c.loop-p in
    let k = c.if-p.false in
    let t : l.p-index < length ps = omega (arith, c.loop-p-test.true) in
    let e = c.from.ensures in (
      omega arith,
      full_more l.p-index ps l.invariant.1 k,
      elim c.if-from-lt-PLACES.branch [
        | then-from-lt-PLACES w ↦ rw (w.low-is, w.high-is, w.max-high.ensures, w.min-low.ensures) (span_turn ps l.p-index l.invariant.1 t k l.low l.high (rw e at w.if-from-lt-PLACES.true) l.invariant.2)
        | else-from-lt-PLACES w ↦ rw (w.low-is, w.high-is) (span_skip ps l.p-index l.invariant.1 t k _ _ (rw e at w.if-from-lt-PLACES.false) l.invariant.2)
      ],
    )

pub returns : goal.returns
returns c = let l = c.loop-p in let e : l.p-index ≡ length c.args.kept = omega (arith, l.invariant.0) in rw e at l.invariant.2
