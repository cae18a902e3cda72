-- `header` meets its contract: test 1, then test 2 of the header that is read.
use mathlib.Core.Path.{◌≡◌, sym, ap, ◌∙◌}
use mathlib.Core.Bool.{true}
use lib.Dec.{leb}
use lib.ListN.{length}
use borrow.Author.Tests.{lt-leb, le-leb, not-true, not-false}
use Rattle.bits.specs.Fill.{bytes_for}
use Rattle.plan.specs.{Header.header_bits, Check.header_in_range, Check.result, CheckParts.run, CheckParts.check_header}
use Rattle.plan.proofs.Chain.{found}
use Rattle.checks.proofs.header.Goals.{Else-plan-header_bytes}
use Rattle.checks.proofs.header.Goals as goal

-- test 1 passed
long : (c : Else-plan-header_bytes) → let a = c.args in leb (bytes_for (header_bits a.width)) (length a.plan.now) ≡ true
long c = rw (← c.header_bytes.ensures) (le-leb _ _ c.if-plan-header_bytes.false)

pub returns-then-plan-header_bytes : goal.returns-then-plan-header_bytes
unfolding check_header run
returns-then-plan-header_bytes c = rw (← c.header_bytes.ensures) (rw (lt-leb _ _ c.if-plan-header_bytes.true))

pub returns-then-not-is_in_range : goal.returns-then-not-is_in_range
unfolding check_header run
returns-then-not-is_in_range c = rw (long (goal.at.returns-then-not-is_in_range c).Else-plan-header_bytes, found (λ w h. header_in_range h) c.read-h.ensures c.is_in_range.ensures ∙ not-true _ c.if-not-is_in_range.true-raw)

pub returns : goal.returns
unfolding check_header run
returns c = let same = c.read-h.ensures in
    (rw (long (goal.at.returns c).Else-plan-header_bytes, found (λ w h. header_in_range h) same c.is_in_range.ensures ∙ not-false _ c.if-not-is_in_range.false-raw) (ap result (sym same.0)), same.1)
