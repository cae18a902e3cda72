-- `fit` meets its contract: the loop has compared the numbers below i.
use mathlib.Core.Path.{◌≡◌}
use mathlib.Core.List.{[], ◌∷◌}
use lib.ListN.{take}
use Rattle.bits.specs.Layout.{records, fits}
use Rattle.nibbles.specs.Nibbles.{width}
use Rattle.nibbles.proofs.fit.Given as goal

abbrev pub invariant-loop-number : goal.invariant-loop-number
invariant-loop-number l = (l.all ≡ fits (records l.number-index (width ∷ [])) (take l.number-index l.numbers))
