-- `Server::vote` meets its contract. The loop's invariant: the pairs before j are done; a row whose span begins past the known pairs has none.
use Prim.Native.Nat.{◌≤◌, ◌<◌}
use Rattle.calendar.specs.Layout.{low_of}
use Rattle.serving.proofs.VoteLaws.{Voting}
use Rattle.serving.proofs.Server.vote.Given as goal

abbrev pub invariant-loop-j : goal.invariant-loop-j
invariant-loop-j l = (l.turn.m < l.j → l.j ≤ low_of l.work l.turn.row) × Voting l.work l.values l.turn l.initial.self l.initial.sets l.self l.sets l.j
