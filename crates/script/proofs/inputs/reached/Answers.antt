-- `inputs::reached` meets its contract. The loop's invariant: the parties passed have their words.
use mathlib.Core.Path.{◌≡◌}
use native.Mathlib.Omega.{arith}
use borrow.Author.Rules.{rules}
use Rattle.requests.specs.Requests.{reached_of}
use Rattle.tables.proofs.Tables.{each_more}
use Rattle.script.proofs.inputs.reached.Goals as goal

pub loop-p-preserved : goal.loop-p-preserved
loop-p-preserved c = let h = c.loop-p in
    let a = c.args in
    (search rules, each_more (λ k v. v ≡ reached_of a.work.now a.t k) h.reached h.p _ (omega arith) c.reached.ensures h.invariant.1)

pub returns : goal.returns
returns c = record { each = λ p l. c.loop-p.invariant.1 p (omega arith) }
