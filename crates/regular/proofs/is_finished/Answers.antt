-- `is_finished` is the test 'finished before', of any plan, read and write with these ticks.
-- It stands on the definition alone.
use Rattle.register.specs.Regular.{finished}
use Rattle.regular.proofs.is_finished.Goals as goal

pub returns : goal.returns
unfolding finished
returns c = λ P x w d b e. cc
