-- `put_between` meets its contract: the loop has written the bytes before byte k, and pair k - 1 is at hand.
use mathlib.Core.Path.{◌≡◌}
use Prim.Native.Nat.{◌*◌, ◌-◌, ◌%◌, ◌≤◌}
use Rattle.nibbles.specs.Nibbles.{all_bits, pair_of, Part}
use Rattle.nibbles.proofs.put_between.Given as goal

abbrev pub invariant-loop-k : goal.invariant-loop-k
invariant-loop-k l = (1 ≤ l.k) × (l.k ≤ l.pairs) × (l.before ≡ pair_of l.numbers (l.k - 1)) × Part l.initial.out l.out l.at (all_bits l.numbers) (8 - l.at % 8) (8 * l.k - l.at % 8)
