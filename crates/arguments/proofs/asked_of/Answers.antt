-- `asked_of` meets its contract: the tests are those of the definition.
use mathlib.Core.Path.{◌≡◌}
use Rattle.register.specs.Lists.{same_list}
use Rattle.arguments.specs.Arguments.{help_word, version_word, asked_of}
use Rattle.arguments.proofs.Laws.{same_word}
use Rattle.arguments.proofs.asked_of.Goals.{After-eq, After-eq-else-eq}
use Rattle.arguments.proofs.asked_of.Goals as goal

-- the tests of the two words
help : (c : After-eq) → same_list c.args.word.now help_word ≡ c.eq.result
help c = rw c.eq.ensures (rw c.as_slice.ensures (same_word c.args.word.now help_word))

version : (c : After-eq-else-eq) → same_list c.args.word.now version_word ≡ c.eq-else-eq.result
version c = rw c.eq-else-eq.ensures (rw c.as_slice-else-eq.ensures (same_word c.args.word.now version_word))

pub returns-then-eq : goal.returns-then-eq
unfolding asked_of
returns-then-eq c = rw (help (goal.at.returns-then-eq c).After-eq, c.if-eq.true)

pub returns-then-eq-2 : goal.returns-then-eq-2
unfolding asked_of
returns-then-eq-2 c = rw (help (goal.at.returns-then-eq-2 c).After-eq, c.if-eq.false, version (goal.at.returns-then-eq-2 c).After-eq-else-eq, c.if-eq-2.true)

pub returns-then-is_option : goal.returns-then-is_option
unfolding asked_of
returns-then-is_option c = rw (help (goal.at.returns-then-is_option c).After-eq, c.if-eq.false, version (goal.at.returns-then-is_option c).After-eq-else-eq, c.if-eq-2.false, ← c.is_option.ensures, c.if-is_option.true)

pub returns-else-is_option : goal.returns-else-is_option
unfolding asked_of
returns-else-is_option c = rw (help (goal.at.returns-else-is_option c).After-eq, c.if-eq.false, version (goal.at.returns-else-is_option c).After-eq-else-eq, c.if-eq-2.false, ← c.is_option.ensures, c.if-is_option.false)
