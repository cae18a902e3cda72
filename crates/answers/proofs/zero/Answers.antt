-- `zero` meets its contract.
use mathlib.Core.Path.{ap}
use mathlib.Core.List.{List, ◌++◌}
use Prim.Native.Nat.{ℕ}
use lib.ListN.{drop}
use lib.Seq.{length-take-le}
use Rattle.answers.specs.Workspace.{workspace_size, zeroed}
use Rattle.answers.proofs.zero.Goals as goal

pub returns : goal.returns
unfolding zeroed
returns c = let w = c.args.work.now in
    let e = c.fill.ensures.after (λ y e. e) in
    ap (λ (l : List ℕ). l ++ drop workspace_size w) (rw (length-take-le workspace_size w c.requires) at e)
