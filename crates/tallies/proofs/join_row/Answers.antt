-- `tallies::join_row` meets its contract. The loop's invariant: what arrives for the pairs before j has joined.
use mathlib.Core.Path.{◌∙◌}
use mathlib.Core.Logic.{inl, inr}
use Prim.Native.Nat.{◌+◌, ◌<◌}
use Rattle.limits.specs.Limits.{places}
use native.Mathlib.Omega.{arith}
use lib.ListN.{length-set}
use lib.Seq.{get_or-set_other}
use Rattle.tallies.proofs.TallyLaws.{part_more}
use Rattle.tallies.proofs.join_row.Goals as goal

pub loop-j-preserved : goal.loop-j-preserved
loop-j-preserved c = let l = c.loop-j in
    let d : l.j < places = omega (arith, c.loop-j-test.true, c.high-j-end.ensures.0, c.requires.3.top _ c.requires.1) in
    rw c.join.ensures (
      simp length-set l.invariant.0,
      λ x o. get_or-set_other l.sets (c.args.at + l.j) x _ 0 (λ q. elim o [ inl w ↦ omega (arith, q, w) | inr w ↦ omega (arith, q, w, d) ]) ∙ l.invariant.1 x o,
      part_more _ _ _ l.sets l.j _ d (omega (arith, d, c.requires.0, l.invariant.0)) (λ i. rw c.senders.ensures) l.invariant.2,
    )
