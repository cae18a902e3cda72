-- `choose::chosen` meets its contract. The loop's invariant: no pair from j on has a quorum.
use mathlib.Core.Path.{◌≡◌}
use Prim.Native.Nat.{◌+◌}
use Rattle.tallies.specs.Tallies.{holds}
use Rattle.reading.specs.Choosing.{highest_of}
use Rattle.reading.proofs.choose.chosen.Given as goal

abbrev pub invariant-loop-j : goal.invariant-loop-j
invariant-loop-j l = highest_of (λ y i. holds l.sets (l.at + y) i) l.reply l.m ≡ highest_of (λ y i. holds l.sets (l.at + y) i) l.reply l.j
