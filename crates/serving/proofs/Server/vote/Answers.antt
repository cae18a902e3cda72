-- `Server::vote` meets its contract. The loop's invariant: the pairs before j are done; a row whose span begins past the known pairs has none.
use mathlib.Core.Path.{refl}
use native.Mathlib.Omega.{arith}
use lib.ListN.{get_or}
use Rattle.calendar.specs.declared.Stamped.{Stamped}
use Rattle.serving.proofs.VoteLaws.{voting_none, voting_more, voting_all}
use Rattle.serving.proofs.Server.vote.Goals as goal

pub loop-j-init : goal.loop-j-init
loop-j-init c = (λ h. omega arith, rw c.low-j.ensures.0 (voting_none _ _ c.args.turn c.args.self _ c.requires))

pub senders-got-requires : goal.senders-got-requires
senders-got-requires c = (c.requires.row, omega arith, c.requires.room)

pub loop-j-preserved : goal.loop-j-preserved
loop-j-preserved c = let l = c.loop-j in
    let a = c.args in
    let p : Stamped = record { number = l.j; value = get_or a.values.now l.j 0 } in (
      λ h. absurd (omega arith),
      voting_more _ a.values.now a.turn a.self _ c.requires l.self l.sets l.j (omega arith) (omega arith) (omega arith) l.invariant.1 _ _ p refl (λ h. refl)
          _ _ c.of_server-from.ensures.0 c.senders-got.ensures c.heard-self.ensures,
    )

pub returns : goal.returns
returns c = let l = c.loop-j in
    let a = c.args in
    voting_all _ a.values.now a.turn a.self _ c.requires l.self l.sets l.j l.invariant.1 (λ h. omega arith) l.invariant.0
