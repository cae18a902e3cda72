-- `forging::forge` meets its contract. The loop's invariant: the entries passed are posted.
use lib.ListN.{get_or}
use Rattle.calendar.specs.View.{Posted}
use Rattle.forging.specs.Forging.{forges}
use Rattle.forging.proofs.forge.Given as goal

abbrev pub invariant-loop-e : goal.invariant-loop-e
invariant-loop-e l = Posted l.initial.work l.work (forges l.ends l.n l.initial.work (get_or l.starts l.t 0) l.e)
