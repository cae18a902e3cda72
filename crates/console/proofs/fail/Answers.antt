-- `fail` is safe: the line fits its buffer, and is the one that is written.
use mathlib.Core.Path.{sym}
use native.Mathlib.Omega.{arith}
use lib.Seq.{length-take-le}
use Rattle.arguments.proofs.Laws.{failure_fits, whole_line}
use Rattle.console.proofs.fail.Goals as goal

pub slice_bounds-line-end : goal.slice_bounds-line-end
slice_bounds-line-end g c = omega (arith, c.put_failure-size.ensures.next_is, failure_fits c.args.name.now)

pub slice_bounds-tell_failure-end : goal.slice_bounds-tell_failure-end
slice_bounds-tell_failure-end g c = sym (length-take-le _ _ (omega (arith, c.put_failure-size.ensures.next_is, c.put_failure-size.auto.out, failure_fits c.args.name.now)))

pub tell_failure-requires : goal.tell_failure-requires
tell_failure-requires g c = let w = whole_line (omega (arith, failure_fits c.args.name.now)) c.put_failure-size.ensures in
    w
