-- `pack_at` meets its contract: the tests of the header and of the lengths, then those of the plan that the lists are packed to.
use mathlib.Core.Path.{◌≡◌, ◌∙◌, sym, ap}
use mathlib.Core.Bool.{true}
use Prim.Native.Nat.{ℕ, ◌≤◌}
use lib.ListN.{take, length-replicate}
use lib.Seq.{length-take-le}
use native.Mathlib.Omega.{arith}
use borrow.Author.Tests.{not-true, not-false}
use Rattle.bits.specs.{Layout.fits}
use Rattle.plan.specs.{Form.most_width, Widths.header_widths, Limits.implied_bytes, Check.header_in_range, Check.enough_servers, Buffer.into_buffer, Shape.shape}
use Rattle.plan.proofs.{Chain.found, Sizes.implied_few}
use Rattle.lists.specs.{Lists.Lists, Lists.Full, Lists.listed, Lists.packed_plan}
use Rattle.pack.specs.{Pack.lengths_implied, Pack.part_tests, Pack.pack_tests, Pack.pack_of, Numbered.with_header, Numbered.parts_of, Numbered.Listed}
use Rattle.pack.proofs.Ready as ready
use Rattle.pack.proofs.pack_at.Goals.{After-bytes-size, Else-not-are_implied, Else-not-has_enough_servers, Else-not-is_header, Else-not-is_in_range}
use Rattle.pack.proofs.pack_at.Goals as goal

-- The lists, behind each test.
abbrev lists1 : Else-not-is_header → Lists
lists1 c = with_header c.args.header.now c.args.parts.now

abbrev lists2 : Else-not-is_in_range → Lists
lists2 c = with_header c.args.header.now c.args.parts.now

abbrev lists4 : Else-not-are_implied → Lists
lists4 c = with_header c.args.header.now c.args.parts.now

-- What each test that passed says.
fit1 : (c : Else-not-is_header) → fits (header_widths c.args.width) (lists1 c).header ≡ true
fit1 c = sym c.is_header.ensures ∙ not-false _ c.if-not-is_header.false-raw

same2 : (c : Else-not-is_in_range) → (shape c.of-h.result ≡ listed (lists2 c)) × (c.of-h.result.width ≡ c.args.width)
same2 c = c.of-h.ensures

fit2 : (c : Else-not-is_in_range) → fits (header_widths c.of-h.result.width) (lists2 c).header ≡ true
fit2 c = ap (λ (w : ℕ). fits (header_widths w) (lists2 c).header) (same2 c).1 ∙ fit1 (goal.at.Else-not-is_in_range c).Else-not-is_header

narrow2 : (c : Else-not-is_in_range) → c.of-h.result.width ≤ most_width
narrow2 c = omega (arith, (same2 c).1, c.requires)

range2 : (c : Else-not-is_in_range) → header_in_range (shape c.of-h.result) ≡ true
range2 c = sym c.is_in_range.ensures ∙ not-false _ c.if-not-is_in_range.false-raw

enough3 : (c : Else-not-has_enough_servers) → enough_servers (shape c.of-h.result) ≡ true
enough3 c = sym c.has_enough_servers.ensures ∙ not-false _ c.if-not-has_enough_servers.false-raw

lengths4 : (c : Else-not-are_implied) → lengths_implied c.of-h.result.width (shape c.of-h.result) (lists4 c) ≡ true
unfolding lengths_implied
lengths4 c = sym c.are_implied.ensures ∙ not-false _ c.if-not-are_implied.false-raw

listed4 : (c : Else-not-are_implied) → Listed c.of-h.result.width (lists4 c) (shape c.of-h.result)
listed4 c = let q = (goal.at.Else-not-are_implied c).Else-not-is_in_range in
    ready.listed_as c.of-h.result.width (lists4 c) (shape c.of-h.result) (same2 q).0 (fit2 q) (range2 q) (lengths4 c)

narrow4 : (c : Else-not-are_implied) → c.of-h.result.width ≤ most_width
narrow4 c = narrow2 (goal.at.Else-not-are_implied c).Else-not-is_in_range

full4 : (c : Else-not-are_implied) → Full c.of-h.result.width (shape c.of-h.result) (parts_of c.args.parts.now)
full4 c = let f = (listed4 c).full in record { placements = f.placements; operations = f.operations; forgeries = f.forgeries; delays = f.delays }

-- the first bytes of the array are the packed plan
plan_is : (c : After-bytes-size) → take c.bytes-size.result c.write.new.own ≡ packed_plan c.of-h.result.width (with_header c.args.header.now c.args.parts.now)
plan_is c = let q = (goal.at.After-bytes-size c).Else-not-are_implied in
    let wrote = c.write.ensures in
    ready.plan_own c.of-h.result.width (narrow4 q) (lists4 q) (shape c.of-h.result) (listed4 q) c.write.new.own c.bytes-size.result c.bytes-size.ensures wrote.1 wrote.0

pub returns-then-not-is_header : goal.returns-then-not-is_header
unfolding pack_of pack_tests into_buffer part_tests lengths_implied
returns-then-not-is_header c = rw (sym c.is_header.ensures ∙ not-true _ c.if-not-is_header.true-raw)

pub returns-then-not-is_in_range : goal.returns-then-not-is_in_range
unfolding pack_of pack_tests into_buffer part_tests lengths_implied
returns-then-not-is_in_range c = let e = found (λ w h. header_in_range h) c.of-h.ensures c.is_in_range.ensures ∙ not-true _ c.if-not-is_in_range.true-raw in
    rw (fit1 (goal.at.returns-then-not-is_in_range c).Else-not-is_header, e)

pub returns-then-not-has_enough_servers : goal.returns-then-not-has_enough_servers
unfolding pack_of pack_tests into_buffer part_tests lengths_implied
returns-then-not-has_enough_servers c = let q = (goal.at.returns-then-not-has_enough_servers c).Else-not-is_in_range in
    let e = found (λ w h. enough_servers h) (same2 q) c.has_enough_servers.ensures ∙ not-true _ c.if-not-has_enough_servers.true-raw in
    let r = found (λ w h. header_in_range h) (same2 q) (sym (range2 q)) in
    rw (fit1 (goal.at.returns-then-not-has_enough_servers c).Else-not-is_header, r, e)

pub are_implied-requires : goal.are_implied-requires
are_implied-requires c = let q = (goal.at.are_implied-requires c).Else-not-is_in_range in
    ready.listed_ranged c.of-h.result.width (lists2 q) (shape c.of-h.result) (same2 q).0 (fit2 q) (range2 q)

pub returns-then-not-are_implied : goal.returns-then-not-are_implied
unfolding pack_of pack_tests into_buffer part_tests lengths_implied
returns-then-not-are_implied c = let z = (goal.at.returns-then-not-are_implied c).Else-not-is_in_range in
    let e = found (λ w h. lengths_implied w h (lists2 z)) (same2 z) c.are_implied.ensures ∙ not-true _ c.if-not-are_implied.true-raw in
    let r = found (λ w h. header_in_range h) (same2 z) (sym (range2 z)) in
    let s = found (λ w h. enough_servers h) (same2 z) (sym (enough3 (goal.at.returns-then-not-are_implied c).Else-not-has_enough_servers)) in
    rw (fit1 (goal.at.returns-then-not-are_implied c).Else-not-is_header, r, s, e)

pub write-requires : goal.write-requires
write-requires c = let q = (goal.at.write-requires c).Else-not-are_implied in (length-replicate {A = ℕ} implied_bytes 0, narrow4 q, listed4 q)

pub bytes-size-requires : goal.bytes-size-requires
bytes-size-requires c = let q = (goal.at.bytes-size-requires c).Else-not-are_implied in ((listed4 q).ranged, narrow4 q)

pub slice_bounds-own-end : goal.slice_bounds-own-end
slice_bounds-own-end c = let q = (goal.at.slice_bounds-own-end c).Else-not-are_implied in
    let few = implied_few c.of-h.result.width (shape c.of-h.result) (listed4 q).ranged (narrow4 q) in
    omega (arith, few, c.bytes-size.ensures)

pub slice_bounds-finish-end : goal.slice_bounds-finish-end
slice_bounds-finish-end c = let q = (goal.at.slice_bounds-finish-end c).Else-not-are_implied in
    let few = implied_few c.of-h.result.width (shape c.of-h.result) (listed4 q).ranged (narrow4 q) in
    sym (length-take-le c.bytes-size.result c.write.new.own (omega (arith, few, c.bytes-size.ensures)))

pub finish-requires : goal.finish-requires
finish-requires c = let q = (goal.at.finish-requires c).Else-not-are_implied in
    let e = plan_is (goal.at.finish-requires c).After-bytes-size in (
      rw e (ready.plan_sized _ (narrow4 q) _ _ (listed4 q)),
      rw e (ready.plan_header _ (narrow4 q) _ _ (listed4 q)),
      full4 q,
    )

pub returns : goal.returns
returns c = let out = c.args.out.now in
    let q = (goal.at.returns c).Else-not-are_implied in
    let z = (goal.at.returns c).Else-not-is_in_range in
    c.finish.ensures
    ∙ rw (plan_is (goal.at.returns c).After-bytes-size)
    (sym (ready.pack_parts c.of-h.result.width (narrow4 q) (lists4 q) (shape c.of-h.result) (listed4 q) (range2 z) (enough3 (goal.at.returns c).Else-not-has_enough_servers) (lengths4 q) out))
    ∙ ap (λ (w : ℕ). pack_of w (lists4 q) out) (same2 z).1
