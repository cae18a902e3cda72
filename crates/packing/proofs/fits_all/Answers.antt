-- `fits_all` meets its contract: what is left fits as the whole does.
use mathlib.Core.Path.{◌∙◌, sym}
use native.Mathlib.Numerals.{add-one}
use native.Mathlib.Omega.{arith}
use borrow.Author.Tests.{not-true, not-false}
use Rattle.register.proofs.Lists.{part_from}
use Rattle.packing.proofs.Fitting as fitting
use Rattle.packing.proofs.fits_all.Goals as goal

pub returns-then-not-fits_one : goal.returns-then-not-fits_one
returns-then-not-fits_one c = let a = c.args in
    let l = c.loop-i in
    let e = rw part_from at c.fits_one.ensures in
    sym (l.invariant ∙ fitting.record_stop a.widths.now a.numbers.now a.count c.requires.1 l.i (omega arith) (sym e ∙ not-true _ c.if-not-fits_one.true-raw))

pub loop-i-preserved : goal.loop-i-preserved
loop-i-preserved c = let a = c.args in
    let l = c.loop-i in
    let e = rw part_from at c.fits_one.ensures in
    let m = fitting.record_more a.widths.now a.numbers.now a.count c.requires.1 l.i (omega arith) (sym e ∙ not-false _ c.if-not-fits_one.false-raw) in
    rw add-one (l.invariant ∙ m)

pub returns : goal.returns
returns c = let a = c.args in
    let l = c.loop-i in
    sym (l.invariant ∙ fitting.record_end a.widths.now a.numbers.now a.count c.requires.1 l.i (omega arith))
