-- `servers::is_quorate` meets its contract.
use native.Mathlib.Omega.{arith}
use borrow.Author.Tests.{le-leb, lt-leb}
use Rattle.serving.proofs.StageLaws.{quorate_law}
use Rattle.serving.proofs.servers.is_quorate.Goals as goal

pub returns-then-rules-fresh : goal.returns-then-rules-fresh
returns-then-rules-fresh c = let a = c.args in
    rw (quorate_law a.rules.echo a.rules.reply a.fresh a.recent (omega arith) (omega arith), le-leb _ _ c.if-rules-fresh.true)

pub returns-else-rules-fresh : goal.returns-else-rules-fresh
returns-else-rules-fresh c = let a = c.args in
    rw (quorate_law a.rules.echo a.rules.reply a.fresh a.recent (omega arith) (omega arith), lt-leb _ _ c.if-rules-fresh.false)
