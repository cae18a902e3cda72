-- `pairs_stand` meets its contract: the loop has tested the pairs below k.
use mathlib.Core.Path.{◌≡◌, sym, ◌∙◌}
use Prim.Native.Nat.{◌/◌, ◌+◌}
use native.Mathlib.Omega.{arith}
use lib.ListN.{get_or}
use Rattle.plan.specs.Shape.{shape}
use Rattle.delays.proofs.Pairs.{first_none, pair_more, byte_at, byte_pair, need_high, need_low, link_mark_few}
use Rattle.delays.proofs.pairs_stand.Goals as goal

pub loop-k-init : goal.loop-k-init
loop-k-init c = sym (first_none _ _ _)

pub byte_stands-stands-requires : goal.byte_stands-stands-requires
byte_stands-stands-requires c = rw (c.requires.4 c.loop-k.k (omega arith), need_high, need_low) (link_mark_few _ _ _, link_mark_few _ _ _)

pub loop-k-preserved : goal.loop-k-preserved
loop-k-preserved c = let s = c.args.plan.now in
    let h = shape c.args.h in
    let at = c.args.at in
    let l = c.loop-k in
    let k = l.k in
    let ex =
    c.shifted-x.ensures
    ∙ byte_at s at k (omega (arith, c.type_inv.plan (at / 8 + k)))
    (omega (arith, c.type_inv.plan (at / 8 + k + 1))) in
    let pair = byte_pair s h at k c.shifted-x.result (get_or c.args.need.now k 0) ex (c.requires.4 k (omega arith)) in
    rw (c.byte_stands-stands.ensures, pair, l.invariant) (sym (pair_more s h at k))

pub returns : goal.returns
returns c = let l = c.loop-k in
    let e : l.k ≡ c.args.bytes = omega arith in
    rw (← e) l.invariant
