-- `forecast` meets its definition for all inputs: Check's refusals, or the counts of an accepted plan.
use mathlib.Core.Path.{sym}
use Rattle.std.proofs.lemmas.Result.{err_from_is_err_and}
use Rattle.plan.proofs.Forms.{form_passed}
use Rattle.forecast.specs.Forecast.{forecast_after, forecast_in}
use Rattle.forecast.proofs.forecast.Goals as goal

pub counts_of-requires : goal.counts_of-requires
counts_of-requires c = let w = c.width.ensures in
    let s = c.args in
    (rw w.0 (form_passed s.form s.plan.now _ (sym c.in_ok-reads.ensures)).1, w.1)

pub returns-in_err-reads : goal.returns-in_err-reads
unfolding forecast_in forecast_after
returns-in_err-reads c = let p = err_from_is_err_and c.from_residual.result c.from_residual.ensures.1 in rw (p.1, p.2, ← c.in_err-reads.ensures)

pub returns : goal.returns
unfolding forecast_in forecast_after
returns c = rw (← c.in_ok-reads.ensures, ← c.width.ensures.0, c.counts_of.ensures)
