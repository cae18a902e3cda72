-- `fits_one` meets its contract: what is left fits as the whole does.
use mathlib.Core.Path.{◌∙◌, sym}
use native.Mathlib.Numerals.{add-one}
use native.Mathlib.Omega.{arith}
use borrow.Author.Tests.{not-true, not-false}
use Rattle.records.proofs.Underway.{narrow_at}
use Rattle.packing.proofs.Fitting as fitting
use Rattle.packing.proofs.fits_one.Goals as goal

pub is_narrow-requires : goal.is_narrow-requires
is_narrow-requires c = narrow_at 32 _ _ c.requires.0 (omega arith)

pub returns-then-not-is_narrow : goal.returns-then-not-is_narrow
returns-then-not-is_narrow c = let a = c.args in
    let l = c.loop-j in
    sym (l.invariant ∙ fitting.fits_stop a.widths.now a.numbers.now (omega arith) l.j (omega arith) (sym c.is_narrow.ensures ∙ not-true _ c.if-not-is_narrow.true-raw))

pub loop-j-preserved : goal.loop-j-preserved
loop-j-preserved c = let a = c.args in
    let l = c.loop-j in
    let e = fitting.fits_more a.widths.now a.numbers.now (omega arith) l.j (omega arith) (sym c.is_narrow.ensures ∙ not-false _ c.if-not-is_narrow.false-raw) in
    rw add-one (l.invariant ∙ e)

pub returns : goal.returns
returns c = let a = c.args in
    let l = c.loop-j in
    sym (l.invariant ∙ fitting.fits_end a.widths.now a.numbers.now (omega arith) l.j (omega arith))
