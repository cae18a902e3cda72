-- `fits_all` meets its contract: what is left fits as the whole does.
use mathlib.Core.Path.{◌≡◌}
use Prim.Native.Nat.{◌-◌, ◌*◌}
use lib.ListN.{length, drop}
use Rattle.bits.specs.Layout.{records, fits}
use Rattle.packing.proofs.fits_all.Given as goal

abbrev pub invariant-loop-i : goal.invariant-loop-i
invariant-loop-i l = (fits (records l.count l.widths) l.numbers ≡ fits (records (l.count - l.i) l.widths) (drop (length l.widths * l.i) l.numbers))
