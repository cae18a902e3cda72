-- `operations::writes_of` meets its contract. The loop's invariant: the tables have the writes among the operations passed. A write more finds a number left.
use mathlib.Core.Path.{◌≡◌}
use lib.ListN.{length}
use Rattle.register.specs.Lists.{tab}
use Rattle.plan.specs.Parts.{writes_from}
use Rattle.tables.specs.Operations.{op_at, Written}
use Rattle.tables.proofs.operations.writes_of.Given as goal

abbrev pub invariant-loop-i : goal.invariant-loop-i
invariant-loop-i l = (length l.values ≡ 65) × (length l.begun ≡ 65) × Written l.width (writes_from l.width 1 (tab l.i (op_at l.width l.plan l.at))) l.initial' l.values l.begun l.m
