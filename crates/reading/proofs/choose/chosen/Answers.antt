-- `choose::chosen` meets its contract. The loop's invariant: no pair from j on has a quorum.
use native.Mathlib.Omega.{arith}
use mathlib.Core.Path.{◌≡◌, sym, ap, ◌∙◌}
use mathlib.Core.Bool.{Bool}
use Prim.Native.Nat.{ℕ, suc, ◌<◌, ◌+◌, ◌-◌, ◌^◌}
use lib.ListN.{get_or}
use lib.Count.{ones}
use Rattle.register.specs.Lists.{count}
use Rattle.tallies.specs.Tallies.{holds}
use Rattle.limits.proofs.Bits.{ones_count}
use Rattle.reading.specs.Choosing.{highest_of}
use Rattle.reading.proofs.Chosen.{highest_here, highest_below}
use Rattle.reading.proofs.choose.chosen.Goals.{In-loop-j}
use Rattle.reading.proofs.choose.chosen.Goals as goal

-- pair j - 1 is the next, and its set is the one that was read
module _ (c : In-loop-j) where
  abbrev named : ℕ → ℕ → Bool
  named y i = holds c.args.sets.now (c.args.at + y) i

  above : highest_of named c.args.reply c.args.m ≡ highest_of named c.args.reply (suc (c.loop-j.j - 1))
  above = let z : c.loop-j.j ≡ suc (c.loop-j.j - 1) = omega arith in c.loop-j.invariant ∙ ap (highest_of named c.args.reply) z

  size : get_or c.args.sets.now (c.args.at + (c.loop-j.j - 1)) 0 < 2 ^ 16 → ones (get_or c.args.sets.now (c.args.at + (c.loop-j.j - 1)) 0) ≡ count (named (c.loop-j.j - 1)) 16
  size fits = ones_count 16 (get_or c.args.sets.now (c.args.at + (c.loop-j.j - 1)) 0) fits

pub returns-then-reply-count : goal.returns-then-reply-count
returns-then-reply-count c = let d = (goal.at.returns-then-reply-count c).In-loop-j in
    highest_here (named d) _ _ _ _ (above d) (size d (omega arith)) c.if-reply-count.true

pub loop-j-preserved : goal.loop-j-preserved
loop-j-preserved c = let d = (goal.at.loop-j-preserved c).In-loop-j in
    highest_below (named d) _ _ _ _ (above d) (size d (omega arith)) c.if-reply-count.false

pub returns : goal.returns
unfolding highest_of
returns c = let l = c.loop-j in let e : l.j ≡ 0 = omega arith in sym (l.invariant ∙ rw e)
