-- `fits_one` meets its contract: what is left fits as the whole does.
use mathlib.Core.Path.{◌≡◌}
use Prim.Native.Nat.{◌-◌}
use lib.ListN.{length, take, drop}
use Rattle.bits.specs.Layout.{fits}
use Rattle.packing.proofs.fits_one.Given as goal

abbrev pub invariant-loop-j : goal.invariant-loop-j
invariant-loop-j l = (fits l.widths (take (length l.widths) l.numbers) ≡ fits (drop l.j l.widths) (take (length l.widths - l.j) (drop l.j l.numbers)))
