-- `tick::start` meets its contract.
use Rattle.std.proofs.Common.{sym, ◌∙◌}
use Rattle.register.specs.Server.{insert}
use Rattle.cluster.proofs.TickLaws.{started}
use Rattle.cluster.proofs.tick.start.Goals as goal

pub returns : goal.returns
unfolding insert
returns c = let n = c.none.ensures in
    let k = c.insert.ensures in
    started _ _ (k.0 ∙ rw n.0) (λ values e. k.1 values (n.1 values) (λ h. sym e))
