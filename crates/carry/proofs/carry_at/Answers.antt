-- `carry_at` meets its contract: the test of the values, then of the room, then the plan is written.
use mathlib.Core.Path.{◌≡◌, ◌∙◌, refl, ap, sym}
use mathlib.Core.Bool.{true}
use mathlib.Core.List.{List}
use Prim.Native.Nat.{ℕ, ◌≤◌}
use native.Mathlib.Omega.{arith}
use lib.ListN.{length}
use borrow.Author.Tests.{not-true, not-false}
use Rattle.bits.specs.Fill.{bytes_for}
use Rattle.plan.specs.Header.{Header, header_of, bit_length}
use Rattle.plan.specs.{Form.most_width, Playable.Playable, Shape.shape, Shape.Sized, declared.header.Shape.Shape}
use Rattle.plan.proofs.Sizes.{playable_sizes}
use Rattle.carrying.specs.Carrying.{carried_plan, values_fit}
use Rattle.carrying.proofs.Carrying.{too_wide, too_short, fills}
use Rattle.carry.proofs.Moved.{carried_size}
use Rattle.carry.proofs.carry_at.Goals.{After-all_fit, After-bytes-size, After-read-h, Else-not-all_fit}
use Rattle.carry.proofs.carry_at.Goals as goal

-- the header by value is the plan's, and the plan has its size
read-sized : (v : ℕ) (s : List ℕ) (r : Shape) → Playable v s → v ≤ most_width → (shape r ≡ header_of v s) × (r.width ≡ v)
    → Sized r.width s (shape r) × (shape r ≡ header_of r.width s)
read-sized v s r P narrow e = rw (e.1, e.0) (playable_sizes v s narrow P, refl)

sized : (c : After-read-h) → Sized c.read-h.result.width c.args.plan.now (shape c.read-h.result)
    × (shape c.read-h.result ≡ header_of c.read-h.result.width c.args.plan.now)
sized c = read-sized c.args.had c.args.plan.now c.read-h.result c.requires.0 c.requires.1 c.read-h.ensures

-- what the test of the values says
fit : (c : After-all_fit) → values_fit c.args.had c.args.wanted c.args.plan.now ≡ c.all_fit.result
fit c = ap (λ (v : ℕ). values_fit v c.args.wanted c.args.plan.now) (sym c.read-h.ensures.1) ∙ sym c.all_fit.ensures

passed : (c : Else-not-all_fit) → values_fit c.args.had c.args.wanted c.args.plan.now ≡ true
passed c = fit (goal.at.Else-not-all_fit c).After-all_fit ∙ not-false _ c.if-not-all_fit.false-raw

-- the size is that of the carried plan
size : (c : After-bytes-size) → c.bytes-size.result ≡ length (carried_plan c.args.had c.args.wanted c.args.plan.now)
size c =
    let same = c.with_width.ensures in
    let long = carried_size c.args.had c.args.wanted c.args.plan.now (shape c.read-h.result) c.read-h.ensures.0 (passed (goal.at.After-bytes-size c).Else-not-all_fit) in
    c.bytes-size.ensures
    ∙ ap (λ (width : ℕ). bytes_for (bit_length width (shape c.with_width.result))) same.1
    ∙ ap (λ (h : Header). bytes_for (bit_length c.args.wanted h)) same.0
    ∙ sym long

pub all_fit-requires : goal.all_fit-requires
all_fit-requires c = let s = sized (goal.at.all_fit-requires c).After-read-h in (s.0, s.1, c.requires.2)

pub returns-then-not-all_fit : goal.returns-then-not-all_fit
returns-then-not-all_fit c = sym (too_wide c.args.had c.args.wanted c.args.plan.now c.args.out.now (fit (goal.at.returns-then-not-all_fit c).After-all_fit ∙ not-true _ c.if-not-all_fit.true-raw))

pub bytes-size-requires : goal.bytes-size-requires
bytes-size-requires c = let s = sized (goal.at.bytes-size-requires c).After-read-h in
    rw (c.with_width.ensures.0, c.with_width.ensures.1) (s.0.ranged, c.requires.2)

pub returns-then-out-size : goal.returns-then-out-size
returns-then-out-size c = sym (too_short c.args.had c.args.wanted c.args.plan.now c.args.out.now (passed (goal.at.returns-then-out-size c).Else-not-all_fit) (rw (size (goal.at.returns-then-out-size c).After-bytes-size) at c.if-out-size.true))

pub write-requires : goal.write-requires
write-requires c = let s = sized (goal.at.write-requires c).After-read-h in
    let room : length (carried_plan c.args.had c.args.wanted c.args.plan.now) ≤ length c.args.out.now = omega (arith, size (goal.at.write-requires c).After-bytes-size, c.if-out-size.false) in
    (s.0, s.1, c.requires.2, sym c.all_fit.ensures ∙ not-false _ c.if-not-all_fit.false-raw, rw c.read-h.ensures.1 room)

pub returns : goal.returns
returns c = let room : length (carried_plan c.args.had c.args.wanted c.args.plan.now) ≤ length c.args.out.now = omega (arith, size (goal.at.returns c).After-bytes-size, c.if-out-size.false) in
    let done = rw c.read-h.ensures.1 at c.write.ensures in
    rw (done, size (goal.at.returns c).After-bytes-size) (sym (fills c.args.had c.args.wanted c.args.plan.now c.args.out.now (passed (goal.at.returns c).Else-not-all_fit) room))
