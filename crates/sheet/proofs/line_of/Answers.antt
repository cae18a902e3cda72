-- `line_of` meets its contract: the numbers of the answer, and whether a write is concurrent with its read.
use mathlib.Core.Path.{◌∙◌}
use native.Mathlib.Omega.{arith}
use Rattle.register.specs.Plan.{Plan}
use Rattle.plan.specs.Packed.{plan_of}
use Rattle.results.specs.Judge.{read_of}
use Rattle.page.specs.Page.{is_marked}
use Rattle.sheet.proofs.Rows.{begun_is, line_is}
use Rattle.sheet.proofs.line_of.Goals as goal

pub returns : goal.returns
unfolding is_marked
returns c = λ s values count A l W d.
    let answer = c.read-answer in
    let x = c.args in
    let P : Plan = plan_of x.width s in
    let marked = c.has_concurrent.ensures x.width P (read_of P x.i) values W d (begun_is answer.ensures A l) in
    rw (c.from.ensures, c.from-2.ensures) at (c.read_line.ensures x.width (omega arith) answer.ensures.value_hi) ∙ line_is answer.ensures A l x.times.now.delta _ d marked
