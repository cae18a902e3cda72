-- `script::enter` meets its contract. The entries' room follows from the length of the workspace; the rest is Forging.
use mathlib.Core.Path.{refl}
use native.Mathlib.Omega.{arith}
use Rattle.tables.proofs.Forging.{shape_ranged}
use Rattle.script.proofs.Forging.{fillable, forged}
use Rattle.script.proofs.enter.Goals as goal

pub fill-requires : goal.fill-requires
fill-requires c = let P = c.of-part.ensures in
    rw (P.0, P.1, P.2, P.3) (fillable c.args.header.width c.args.plan.now c.requires.0 c.args.header c.requires.2 _ refl
    c.args.links c.requires.3 c.requires.1 _ _ c.requires.4 c.requires.5)

pub starts-requires : goal.starts-requires
starts-requires c = (rw c.of-part.ensures.3 (shape_ranged c.args.header.width c.args.plan.now c.requires.0 c.args.header c.requires.2).forgeries_hi, omega (arith, c.requires.4, c.fill.ensures.size))

pub returns : goal.returns
returns c = let P = c.of-part.ensures in
    forged c.args.header.width c.args.plan.now c.requires.0 c.args.header c.requires.2 _ refl c.args.links c.requires.3 _ _ _ _ _
    (rw (P.0, P.1, P.2, P.3) at c.fill.ensures) (rw P.3 at c.starts.ensures)
