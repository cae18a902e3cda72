-- `tick_stands` meets its contract.
use Prim.Native.Nat.{◌+◌, ◌*◌, ◌/◌, ◌≤◌}
use native.Mathlib.Omega.{arith}
use lib.ListN.{length}
use Rattle.plan.specs.Header as Header
use Rattle.plan.specs.Shape.{shape}
use Rattle.delays.specs.Steps.{Needed}
use Rattle.plan.proofs.Laws.{row_inside}
use Rattle.delays.proofs.Pairs.{tick_first}
use Rattle.delays.proofs.tick_stands.Goals.{After-parties-parties}
use Rattle.delays.proofs.tick_stands.Goals as goal

-- the tick's delays by the parties that the code has counted: inside the plan, few, and some
inside : (c : After-parties-parties) → let p = c.parties-parties.result in
    let a = c.args in
    (a.at + 4 * (p * p) ≤ 8 * length a.plan.now) × (p * p ≤ 441) × (1 ≤ p * p)
inside c = let p = c.parties-parties.result in
    (rw c.parties-parties.ensures c.requires.0, rw c.parties-parties.ensures c.requires.2, omega (arith, row_inside 0 p p (omega arith)))

pub overflow_mul-all : goal.overflow_mul-all
overflow_mul-all c = omega (arith, inside (goal.at.overflow_mul-all c).After-parties-parties)

pub pairs_stand-stands-requires : goal.pairs_stand-stands-requires
pairs_stand-stands-requires c = let p = c.parties-parties.result in
    let i = inside (goal.at.pairs_stand-stands-requires c).After-parties-parties in
    let f : Needed c.args.h.n (Header.parties (shape c.args.h)) (p * p / 2) c.args.need.now = rw c.parties-parties.ensures c.requires.4 in
    (omega arith, omega arith, omega (arith, i), omega (arith, i), λ k l. f k (omega (arith, l)))

pub overflow_mul-pairs : goal.overflow_mul-pairs
overflow_mul-pairs c = omega (arith, inside (goal.at.overflow_mul-pairs c).After-parties-parties)

pub rest_stand-requires : goal.rest_stand-requires
rest_stand-requires c = let i = inside (goal.at.rest_stand-requires c).After-parties-parties in (omega (arith, i), omega arith, omega (arith, i), omega (arith, i), c.pairs_stand-stands.ensures)

pub returns : goal.returns
returns c = let a = c.args in
    rw (c.rest_stand.ensures, c.parties-parties.ensures) (tick_first a.plan.now (shape a.h) a.at)
