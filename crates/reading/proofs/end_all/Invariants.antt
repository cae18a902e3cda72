-- `reading::end_all` meets its contract. The loop's invariant: the answers of the reads passed are placed.
use mathlib.Core.Path.{◌≡◌}
use Prim.Native.Nat.{◌-◌}
use Rattle.reading.specs.Reading.{placed, chosen_bytes}
use Rattle.reading.proofs.end_all.Given as goal

abbrev pub invariant-loop-i : goal.invariant-loop-i
invariant-loop-i l = l.answers ≡ placed l.width (chosen_bytes l.width l.sets l.script.reads l.script.writes.known l.script.rules.reply) l.from (l.i - l.from) l.initial.answers
