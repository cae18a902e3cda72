-- `begin` is safe: each list adds less than 2 ^ 32.
use Prim.Native.Nat.{◌+◌, ◌*◌, ◌^◌, ◌≤◌}
use lib.ListN.{length}
use Rattle.packs.proofs.cases.begin.Given as goal

abbrev pub invariant-loop-i : goal.invariant-loop-i
invariant-loop-i l = (l.k ≤ 5) × (7 ≤ length l.case) × (7 ≤ l.at) × (l.at ≤ 7 + 2 ^ 32 * l.i)
