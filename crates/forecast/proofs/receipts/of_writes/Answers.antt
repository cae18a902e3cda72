-- `of_writes` meets its contract: after j turns the receipts of the first j writes are counted.
use mathlib.Core.Path.{◌≡◌, refl, subst, ◌∙◌}
use Prim.Native.Nat.{ℕ, suc, ◌+◌, ◌-◌, ◌<◌}
use native.Mathlib.Omega.{arith}
use lib.ListN.{get_or}
use borrow.Author.Rules.{rules}
use Rattle.traffic.specs.Traffic.{sum}
use Rattle.plan.specs.Header.{Header, header_of}
use Rattle.plan.proofs.Sizes.{playable_sizes}
use Rattle.tables.specs.Sending.{Sent}
use Rattle.tables.specs.Links.{link_bit, Linked}
use Rattle.tables.proofs.LinkLaws.{parties_few, link_inside, link_small}
use Rattle.tables.proofs.Sendings.{sent_sendable}
use Rattle.tables.specs.Rules.{LinksOf}
use Rattle.tables.proofs.Forging.{shape_ranged}
use Rattle.forecast.specs.Steps.{InForce}
use Rattle.forecast.proofs.{Reached.sent_receipts, Reached.linked, Reached.sent_within, Written.begun_ends, Written.all_receipts_lem}
use Rattle.forecast.proofs.receipts.of_writes.Goals.{After-of-sending, At-loop-j}
use Rattle.forecast.proofs.receipts.of_writes.Goals as goal

links : (c : At-loop-j) → LinksOf c.args.h.width (header_of c.args.h.width c.args.plan.now) c.links_of-links.result
links c = rw c.requires.2 at c.links_of-links.ensures

servers : (c : At-loop-j) → c.links_of-links.result.n ≡ (header_of c.args.h.width c.args.plan.now).n
servers c = (links c).n

-- the tick in which write j begins
abbrev tick : At-loop-j → ℕ
tick c = get_or c.args.writes.begun c.loop-j.j 0

-- the write ends below H
ends : (c : At-loop-j) → c.loop-j.j < c.args.writes.known.m → tick c + (header_of c.args.h.width c.args.plan.now).delta < (header_of c.args.h.width c.args.plan.now).ticks
ends c l =
    let same : c.loop-j.j - 1 + 1 ≡ c.loop-j.j = omega arith in
    omega (arith, rw same at (begun_ends c.args.h.width c.args.plan.now c.requires.0 _ _ _ c.requires.3 (c.loop-j.j - 1) (omega arith)))

delays-in : (c : At-loop-j) → c.loop-j.j < c.args.writes.known.m → Linked c.args.plan.now c.links_of-links.result c.links_of-links.result.n (tick c + 1)
delays-in c l =
    linked c.args.h.width c.args.plan.now c.requires.0 _ (links c) c.links_of-links.result.n (servers c) c.requires.1 (tick c) (ends c l)

-- what is sent, by the delays of the writer
sends : (c : After-of-sending) → Sent c.args.plan.now (link_bit c.links_of-links.result (get_or c.args.writes.begun c.loop-j.j 0) c.links_of-links.result.n 0) c.links_of-links.result.n (get_or c.args.writes.begun c.loop-j.j 0) 0 c.of-sending.result
sends c = rw (c.row_bit-bit.ensures, c.from.ensures) at c.of-sending.ensures

pub links_of-links-requires : goal.links_of-links-requires
links_of-links-requires c = (shape_ranged c.args.h.width c.args.plan.now c.requires.0 c.args.h c.requires.2, c.requires.1)

pub in_force-placements-requires : goal.in_force-placements-requires
in_force-placements-requires c = rw c.requires.2 (playable_sizes c.args.h.width c.args.plan.now c.requires.1 c.requires.0)

pub loop-j-init : goal.loop-j-init
unfolding sum
loop-j-init c = (search rules, search rules, refl)

pub bounds-writes-j : goal.bounds-writes-j
bounds-writes-j c = omega (arith, c.loop-j-test.true, c.requires.3.written.few)

pub row_bit-bit-requires : goal.row_bit-bit-requires
row_bit-bit-requires c = let K = delays-in (goal.at.row_bit-bit-requires c).At-loop-j c.loop-j-test.true in
    (K.start, parties_few _ _ _ _ K, omega (arith, K.ticks), K.writer)

pub of-sending-requires : goal.of-sending-requires
of-sending-requires c = let K = delays-in (goal.at.of-sending-requires c).At-loop-j c.loop-j-test.true in
    let u = tick (goal.at.of-sending-requires c).At-loop-j in (
      K.servers,
      omega (arith, c.row_bit-bit.ensures, link_inside _ _ _ u K _ K.writer, K.writer),
      omega (arith, c.row_bit-bit.ensures, link_small _ _ _ u K _ K.writer),
    )

pub receipts-r-requires : goal.receipts-r-requires
receipts-r-requires c = let at = goal.at.receipts-r-requires c in
    let K = delays-in at.At-loop-j c.loop-j-test.true in (
      sent_sendable _ _ _ (tick at.At-loop-j) 0 _ K.servers (omega (arith, K.ticks)) (sends at.After-of-sending),
      sent_within c.args.h.width c.args.plan.now c.requires.0 _ (links at.At-loop-j) c.links_of-links.result.n (servers at.At-loop-j) _ (ends at.At-loop-j c.loop-j-test.true) 0 c.of-sending.result (sends at.After-of-sending),
    )

pub overflow_add-r : goal.overflow_add-r
overflow_add-r c = omega (arith, c.receipts-r.ensures.1, c.requires.3.written.few)

pub loop-j-preserved : goal.loop-j-preserved
unfolding sum
loop-j-preserved c = let found =
    c.receipts-r.ensures.0
    ∙ sent_receipts _ _ _ _ 0 c.of-sending.result c.in_force-placements.result (sends (goal.at.loop-j-preserved c).After-of-sending) in
    let next : c.loop-j.j + 1 - 1 ≡ suc (c.loop-j.j - 1) = omega arith in
    let same : c.loop-j.j - 1 + 1 ≡ c.loop-j.j = omega arith in
    (search rules, omega (arith, c.receipts-r.ensures.1), rw next (rw same (omega (arith, found, c.loop-j.invariant.2))))

pub returns : goal.returns
returns c = let e : c.loop-j.j ≡ c.args.writes.known.m = omega arith in (
  rw e at c.loop-j.invariant.2
      ∙ all_receipts_lem c.args.h.width c.args.plan.now c.requires.0 _ _ _ c.requires.3 _ (links (goal.at.returns c).At-loop-j) c.links_of-links.result.n (servers (goal.at.returns c).At-loop-j) c.in_force-placements.result (subst (λ (x : Header). InForce c.args.h.width c.args.plan.now x x.ticks c.in_force-placements.result) c.requires.2 c.in_force-placements.ensures),
  omega (arith, c.requires.3.written.few),
)
