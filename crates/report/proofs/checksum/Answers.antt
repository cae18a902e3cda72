-- `checksum` meets its contract: behind the first bytes the sum is theirs, and it stays below the prime.
use mathlib.Core.Path.{◌∙◌, sym, ap}
use Prim.Native.Nat.{ℕ}
use native.Mathlib.Omega.{arith}
use lib.ListN.{get_or}
use lib.Seq.{take_all}
use Rattle.report.specs.Lent.{sum_with, sum_from}
use Rattle.report.proofs.Sums.{sum_none, sum_more}
use borrow.Author.Rules.{rules}
use Rattle.report.proofs.checksum.Goals as goal

pub loop-byte-init : goal.loop-byte-init
loop-byte-init c = (search rules, sym (sum_none 0))

pub loop-byte-preserved : goal.loop-byte-preserved
loop-byte-preserved c =
    let bytes = c.args.bytes.now in
    let e = c.sum_with-sum.ensures in
    let i = c.loop-byte.byte-index in
    (e.0, e.1 ∙ ap (λ (n : ℕ). sum_with n (get_or bytes i 0)) c.loop-byte.invariant.1 ∙ sym (sum_more bytes i (omega arith)))

pub returns : goal.returns
returns c = let bytes = c.args.bytes.now in
    c.loop-byte.invariant.1 ∙ ap (sum_from 0) (take_all c.loop-byte.byte-index bytes c.loop-byte-test.false)
