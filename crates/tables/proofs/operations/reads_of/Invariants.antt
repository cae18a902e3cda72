-- `operations::reads_of` meets its contract. The loop's invariant: the tables have the reads among the operations passed.
use mathlib.Core.Path.{◌≡◌}
use Prim.Native.Nat.{◌≤◌}
use lib.ListN.{length}
use Rattle.register.specs.Lists.{tab}
use Rattle.plan.specs.Parts.{reads_from}
use Rattle.tables.specs.Operations.{op_at, ReadIn}
use Rattle.tables.proofs.operations.reads_of.Given as goal

abbrev pub invariant-loop-i : goal.invariant-loop-i
invariant-loop-i l = (length l.begun ≡ 255) × (length l.reader ≡ 255) × (l.m ≤ l.i) × ReadIn (reads_from (tab l.i (op_at l.width l.plan l.at))) l.begun l.reader l.m
