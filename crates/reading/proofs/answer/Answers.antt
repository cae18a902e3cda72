-- `reading::answer` meets its contract: the value and the number of the pair chosen, 0 where there is none.
use mathlib.Core.Path.{◌≡◌, sym, ◌∙◌}
use Prim.Native.Nat.{◌+◌, ◌-◌}
use native.Mathlib.Omega.{arith}
use Rattle.tallies.specs.Tallies.{of_reader, holds}
use Rattle.reading.specs.Choosing.{highest_of}
use Rattle.reading.proofs.Chosen.{choice_below}
use Rattle.reading.proofs.Cursors.{answer_none, answer_found}
use Rattle.reading.proofs.answer.Goals.{After-chosen}
use Rattle.reading.proofs.answer.Goals as goal

-- the choice is made in the reader's row
in_row : (c : After-chosen) → let s = c.args in c.chosen.result ≡ highest_of (λ j k. holds s.sets.now (of_reader (s.reader - 1) + j) k) s.reply s.known.m
in_row c = rw (c.of_reader-at.ensures.0, c.from.ensures) at c.chosen.ensures

pub returns-in-None : goal.returns-in-None
returns-in-None c = rw (← in_row (goal.at.returns-in-None c).After-chosen, c.in-None.is, answer_none c.args.width _) c.write.ensures

pub bounds-known-from : goal.bounds-known-from
bounds-known-from c = let h = choice_below _ _ _ c.requires.2 c.in-Some.choice (sym c.chosen.ensures ∙ c.in-Some.is) in omega arith

pub returns-in-Some : goal.returns-in-Some
returns-in-Some c = rw (← in_row (goal.at.returns-in-Some c).After-chosen, c.in-Some.is, answer_found c.args.width c.args.known c.in-Some.choice) (rw c.from-in-Some.ensures at c.write-in-Some.ensures)
