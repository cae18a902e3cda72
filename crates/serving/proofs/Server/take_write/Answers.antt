-- `Server::take_write` meets its contract.
use mathlib.Core.Path.{◌∙◌}
use borrow.Author.Tests.{lt-ltb}
use Rattle.serving.proofs.Server.take_write.Goals as goal

pub returns-then-at-m : goal.returns-then-at-m
returns-then-at-m c = let w = c.write.ensures in
    let at = c.from-at.ensures in
    (λ m sets b. w.0 m sets b ∙ rw (lt-ltb _ _ (rw at at c.if-at-m.true)), λ v. w.1 c.args.values.now v (λ h. rw at))
