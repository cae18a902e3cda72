-- `is_fitting` compares three fields of an answer with its read, in the definition's order.
use native.Mathlib.Omega.{arith}
use Rattle.std.proofs.lemmas.Bool.Decides.{nat_tests}
use Rattle.fitting.specs.Fitting.{fits_read}
use Rattle.fitting.proofs.is_fitting.Goals.{then-answer-begun, else-answer-begun}
use Rattle.fitting.proofs.is_fitting.Goals as goal

pub returns-then-answer-reader : goal.returns-then-answer-reader
unfolding fits_read
returns-then-answer-reader c = let is = c.read-answer.ensures in
    rw (← is.begin, ← is.reader, ← is.zero_bit) (elim c.if-answer-begun.branch [ then-answer-begun b ↦ grind (arith, nat_tests) | else-answer-begun b ↦ grind (arith, nat_tests) ])

pub returns-else-answer-reader : goal.returns-else-answer-reader
unfolding fits_read
returns-else-answer-reader c = let is = c.read-answer.ensures in
    rw (← is.begin, ← is.reader, ← is.zero_bit) (elim c.if-answer-begun.branch [ then-answer-begun b ↦ grind (arith, nat_tests) | else-answer-begun b ↦ grind (arith, nat_tests) ])
