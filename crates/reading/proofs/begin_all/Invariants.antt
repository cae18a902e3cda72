-- `reading::begin_all` meets its contract. The loop's invariant: the readers of the reads passed are set up.
use mathlib.Core.Path.{◌≡◌}
use Prim.Native.Nat.{◌-◌}
use Rattle.reading.specs.Reading.{begun_by, SetUp}
use Rattle.reading.proofs.begin_all.Given as goal

abbrev pub invariant-loop-i : goal.invariant-loop-i
invariant-loop-i l = (l.ends ≡ begun_by l.by l.end l.from (l.i - l.from) l.initial.ends) × SetUp l.by l.from (l.i - l.from) l.initial.sets l.sets
