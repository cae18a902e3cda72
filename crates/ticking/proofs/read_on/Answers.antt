-- `read_on` meets its contract: in most ticks no read ends or begins.
use mathlib.Core.Path.{sym, ◌∙◌}
use Rattle.ticking.proofs.Turns.{none_due}
use Rattle.ticking.proofs.read_on.Goals as goal

pub returns-then-not-is_due : goal.returns-then-not-is_due
returns-then-not-is_due c = none_due _ _ _ _ c.requires.0 _ _ _ (sym c.is_due.ensures ∙ c.if-not-is_due.true)
