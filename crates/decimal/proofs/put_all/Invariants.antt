-- `put_all` meets its contract: after i turns the first i bytes are stored.
use Prim.Native.Nat.{◌+◌}
use lib.ListN.{take}
use Rattle.decimal.specs.Stored.{Stored}
use Rattle.decimal.proofs.put_all.Given as goal

abbrev pub invariant-loop-i : goal.invariant-loop-i
invariant-loop-i l = Stored l.initial.out l.at (take l.i l.bytes) l.out (l.at + l.i)
