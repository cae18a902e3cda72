-- `tick::wrote_at` meets its contract.
use Rattle.std.proofs.Common.{sym, ◌∙◌}
use Rattle.cluster.specs.Inputs.{wrote_at}
use Rattle.cluster.proofs.tick.wrote_at.Goals as goal

pub returns-then-has : goal.returns-then-has
unfolding wrote_at
returns-then-has c = rw (sym c.has.ensures ∙ c.if-has.true)

pub returns : goal.returns
unfolding wrote_at
returns c = rw (sym c.has.ensures ∙ c.if-has.false)
