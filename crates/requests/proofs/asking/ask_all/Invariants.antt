-- `ask_all` meets its contract. The loop's invariant: the READs of the reads passed are under way.
use Rattle.requests.specs.Requests.{Asked}
use Rattle.requests.specs.Asking.{asked_between}
use Rattle.requests.proofs.asking.ask_all.Given as goal

abbrev pub invariant-loop-i : goal.invariant-loop-i
invariant-loop-i l = Asked l.initial.work l.work (asked_between l.plan l.links l.links.n l.t l.by l.from l.i)
