-- `checksum` meets its contract: behind the first bytes the sum is theirs, and it stays below the prime.
use mathlib.Core.Path.{◌≡◌}
use Prim.Native.Nat.{◌<◌}
use lib.ListN.{take}
use Rattle.report.specs.Lent.{sum_from}
use Rattle.report.proofs.checksum.Given as goal

abbrev pub invariant-loop-byte : goal.invariant-loop-byte
invariant-loop-byte l = (l.sum < 2147483647) × (l.sum ≡ sum_from 0 (take l.byte-index l.bytes))
