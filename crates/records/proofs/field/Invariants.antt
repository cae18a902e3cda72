-- `field` meets its contract: the widths before the field are summed.
use mathlib.Core.Path.{◌≡◌}
use Prim.Native.Nat.{◌+◌}
use lib.ListN.{length, take}
use Rattle.bits.specs.Layout.{total}
use Rattle.records.proofs.field.Given as goal

abbrev pub invariant-loop-width : goal.invariant-loop-width
invariant-loop-width l = (take (length l.width-items) l.widths ≡ l.width-items) × (l.from ≡ l.at + total (take l.width-index l.widths))
