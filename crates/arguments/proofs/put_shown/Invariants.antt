-- `put_shown` meets its contract: behind the first bytes so many are shown.
use mathlib.Core.Path.{◌≡◌}
use mathlib.Core.List.{map}
use Prim.Native.Nat.{◌+◌}
use lib.ListN.{length, take}
use Rattle.decimal.specs.Stored.{Stored}
use Rattle.arguments.specs.Arguments.{shown_byte}
use Rattle.arguments.proofs.put_shown.Given as goal

abbrev pub invariant-loop-byte : goal.invariant-loop-byte
invariant-loop-byte l = (l.next ≡ l.at + l.byte-index) × (length l.out ≡ length l.initial.out)
    × Stored l.initial.out l.at (map shown_byte (take l.byte-index l.byte-items)) l.out (l.at + l.byte-index)
