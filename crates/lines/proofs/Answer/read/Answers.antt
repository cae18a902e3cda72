-- `Answer::read` meets its contract: each field is read by its number.
use Rattle.lines.specs.Lines.{answer_in}
use Rattle.lines.proofs.Lines.{begin_low}
use Rattle.lines.proofs.Answer.read.Goals as goal

pub returns : goal.returns
unfolding answer_in
returns c = (cc, rw c.of_answer.ensures (begin_low _ _))
