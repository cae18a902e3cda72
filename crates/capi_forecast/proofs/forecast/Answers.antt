-- `forecast` meets its definition for all inputs: a refusal with the list as it was, or the figures over it.
use Rattle.capi_forecast.proofs.Over.{none_over}
use Rattle.capi_forecast.proofs.forecast.Goals as goal

pub returns-in-Err : goal.returns-in-Err
returns-in-Err c = rw (← c.forecast.ensures, c.in-Err.is, c.refusal.ensures, none_over _)

pub returns-in-Ok : goal.returns-in-Ok
returns-in-Ok c = rw (← c.forecast.ensures, c.in-Ok.is, c.put.ensures, c.figures_of.ensures)
