-- `script::read` meets its contract. An accepted plan is decoded: each part is read from where it stands, and the width of its values is the header's.
use mathlib.Core.Path.{ap}
use Rattle.plan.specs.Header.{Header}
use Rattle.tables.proofs.Standing.{operations_room, initial_narrow, writes_same, reads_same}
use Rattle.tables.proofs.Forging.{shape_ranged}
use Rattle.script.proofs.read.Goals as goal

pub links_of-links-requires : goal.links_of-links-requires
links_of-links-requires c = let x = c.read-header in
    (shape_ranged c.args.width c.args.plan.now c.requires.0 x.result x.ensures.0, rw x.ensures.1 c.requires.1)

pub operations_at-at-requires : goal.operations_at-at-requires
operations_at-at-requires c = let x = c.read-header in
    (shape_ranged c.args.width c.args.plan.now c.requires.0 x.result x.ensures.0, rw x.ensures.1 c.requires.1)

pub writes_of-writes-requires : goal.writes_of-writes-requires
writes_of-writes-requires c = let x = c.read-header in
    let w = c.args.width in
    let at = rw x.ensures.1 at c.operations_at-at.ensures.0 in
    (rw c.from-count.ensures (operations_room w c.args.plan.now c.requires.0 x.result x.ensures.0 _ at c.requires.1), initial_narrow w _ x.result x.ensures.0)

pub returns : goal.returns
returns c = let x = c.read-header in
    let e = x.ensures.1 in
    let same = x.ensures.0 in
    let w = c.args.width in
    let plan = c.args.plan.now in
    let at = rw e at c.operations_at-at.ensures.0 in (
      record {
        narrow = rw e c.requires.1;
        header = rw e same;
        rules = rw (e, ← same) c.rules_of-rules.ensures;
        links = rw (e, ← same) (rw e at c.links_of-links.ensures);
        writes = rw e (rw (writes_same w plan c.requires.0 x.result same _ at, ap (λ (h : Header). h.initial) same) at (rw c.from-count.ensures at c.writes_of-writes.ensures));
        reads = rw e (rw (reads_same w plan c.requires.0 x.result same _ at) at (rw c.from-count.ensures at c.reads_of-reads.ensures));
        forged = c.enter-starts.ensures;
      },
      e,
    )
