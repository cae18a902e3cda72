-- `of_outcome` meets its contract: a refusal has its code.
use Rattle.codes.proofs.of_outcome.Goals as goal

pub returns-in-Err : goal.returns-in-Err
returns-in-Err c = rw (c.refusal.ensures, c.in-Err.is)
