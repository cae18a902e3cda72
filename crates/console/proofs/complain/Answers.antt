-- `complain` is safe: the line fits its buffer, and is the one that is written.
use mathlib.Core.Path.{refl, sym}
use native.Mathlib.Omega.{arith}
use lib.Seq.{length-take-le}
use Rattle.arguments.proofs.Laws.{fault_fits, whole_line}
use Rattle.console.proofs.complain.Goals as goal

pub slice_bounds-line-end : goal.slice_bounds-line-end
slice_bounds-line-end g c = omega (arith, c.put_fault_line-size.ensures.next_is, fault_fits c.args.fault c.args.word.now)

pub slice_bounds-tell-end : goal.slice_bounds-tell-end
slice_bounds-tell-end g c = sym (length-take-le _ _ (omega (arith, c.put_fault_line-size.ensures.next_is, c.put_fault_line-size.auto.out, fault_fits c.args.fault c.args.word.now)))

pub tell-requires : goal.tell-requires
tell-requires g c = let w = whole_line (omega (arith, fault_fits c.args.fault c.args.word.now)) c.put_fault_line-size.ensures in
    (refl, w)
