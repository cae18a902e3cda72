-- `mark` meets its contract: a star or a space.
use Rattle.page.proofs.mark.Goals as goal

pub returns-else-marked : goal.returns-else-marked
returns-else-marked c = rw c.if-marked.false
