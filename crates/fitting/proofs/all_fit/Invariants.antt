-- `all_fit` tests every answer's read. The invariant: all answers passed fit.
use mathlib.Core.Path.{◌≡◌}
use mathlib.Core.Bool.{Bool, true}
use mathlib.Core.List.{List}
use Prim.Native.Nat.{ℕ}
use lib.ListN.{get_or}
use Rattle.register.specs.Lists.{all_up_to}
use Rattle.fitting.specs.Fitting.{fits_read}
use Rattle.fitting.proofs.all_fit.Given as goal

-- answer i fits its read
abbrev pub fits : ℕ → List ℕ → List ℕ → List ℕ → ℕ → Bool
fits width answers begun reader i = fits_read width answers i (get_or begun i 0) (get_or reader i 0)

abbrev pub invariant-loop-i : goal.invariant-loop-i
invariant-loop-i l = all_up_to l.i (fits l.width l.answers l.begun l.reader) ≡ true
