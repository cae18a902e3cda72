-- `write` meets its contract: each part is read and written where the one before it ends.
use mathlib.Core.Path.{◌≡◌, ◌∙◌, refl, ap}
use mathlib.Core.Bool.{true}
use Prim.Native.Nat.{ℕ, ◌≤◌}
use native.Mathlib.Omega.{arith}
use lib.Dec.{leb}
use borrow.Author.Tests.{le-leb}
use Rattle.bits.specs.{Fill.fill, Layout.total}
use Rattle.records.specs.Records.{no_wider}
use Rattle.plan.specs.{Form.most_width, Shape.shape}
use Rattle.plan.specs.Header as header
use Rattle.carry.proofs.Moved.{Rooms, rooms, same_record, same_records, same_bits, same_fill, plan_moved}
use Rattle.carry.proofs.write.Goals.{After-copy-at, After-copy-at-2, After-forged-at, After-record-at, After-records-at, Start}
use Rattle.carry.proofs.write.Goals as goal

-- a field of a value is not too wide
narrow : (w : ℕ) → w ≤ most_width → leb w 32 ≡ true
narrow w l = le-leb w 32 (omega arith)

there : (c : Start) → Rooms c.args.h.width c.args.width (shape c.args.h) c.args.plan.now c.args.out.now
there c = let a = c.args in
    rooms a.h.width a.width a.plan.now (shape a.h) c.requires.1 c.requires.3 c.requires.0 c.requires.2 a.out.now c.requires.4

-- Where reading and writing have come to behind each part.
place1 : (c : After-record-at) → let a = c.args in
    (c.record-at.result.from ≡ header.placement_at a.h.width 0) × (c.record-at.result.to ≡ header.header_bits a.width)
place1 c = let b = c.record-at.ensures.1 in
    let had = ap total c.header_widths-had.ensures in
    let wanted = ap total c.header_widths-wanted.ensures in
    (omega (arith, b.from, had), omega (arith, b.to, wanted))

place2 : (c : After-copy-at) → let a = c.args in
    (c.copy-at.result.from ≡ header.operation_at a.h.width (shape a.h) 0) × (c.copy-at.result.to ≡ header.placement_at a.width (header.moves (shape a.h)))
place2 c =
    let b = c.copy-at.ensures.1 in
    let p = place1 (goal.at.After-copy-at c).After-record-at in
    let m = c.moves.ensures.0 in
    (omega (arith, b.from, p.0, m), omega (arith, b.to, p.1, m))

place3 : (c : After-records-at) → let a = c.args in
    (c.records-at.result.from ≡ header.forgery_at a.h.width (shape a.h) 0) × (c.records-at.result.to ≡ header.operation_at a.width (shape a.h) a.h.operations)
place3 c =
    let b = c.records-at.ensures.1 in
    let p = place2 (goal.at.After-records-at c).After-copy-at in
    let from = rw (c.widths-had.ensures, c.from.ensures) at b.from in
    let to = rw (c.widths-wanted.ensures, c.from.ensures) at b.to in
    (omega (arith, from, p.0), omega (arith, to, p.1))

place4 : (c : After-forged-at) → let a = c.args in
    (c.forged-at.result.from ≡ header.delay_at a.h.width (shape a.h) 0 0 0) × (c.forged-at.result.to ≡ header.forgery_at a.width (shape a.h) a.h.forgeries)
place4 c =
    let b = c.forged-at.ensures.1 in
    let p = place3 (goal.at.After-forged-at c).After-records-at in
    let from = rw (c.widths-had-2.ensures, c.from-2.ensures) at b.from in
    let to = rw (c.widths-wanted-2.ensures, c.from-2.ensures) at b.to in
    (omega (arith, from, p.0), omega (arith, to, p.1))

place5 : (c : After-copy-at-2) → let a = c.args in c.copy-at-2.result.to ≡ header.bit_length a.width (shape a.h)
place5 c =
    omega (arith, c.copy-at-2.ensures.1.to, (place4 (goal.at.After-copy-at-2 c).After-forged-at).1, c.delay_count.ensures.0)

pub record-at-requires : goal.record-at-requires
unfolding no_wider
record-at-requires c = let r = there (goal.at.record-at-requires c).Start in
    let a = narrow c.args.h.width c.requires.0.narrow in
    let b = narrow c.args.width c.requires.2 in
    rw (c.header_widths-had.ensures, c.header_widths-wanted.ensures) (
      record { inside = omega (arith, r.read); near = omega (arith, r.near); narrow = rw a tt },
      record { inside = omega (arith, r.written); near = omega (arith, r.near_there); narrow = rw b tt },
      refl,
    )

pub copy-at-requires : goal.copy-at-requires
copy-at-requires c = let p = place1 (goal.at.copy-at-requires c).After-record-at in
    omega (arith, there (goal.at.copy-at-requires c).Start, p.0, p.1, c.moves.ensures.0, c.record-at.ensures.0.size)

pub records-at-requires : goal.records-at-requires
unfolding no_wider
records-at-requires c = let r = there (goal.at.records-at-requires c).Start in
    let p = place2 (goal.at.records-at-requires c).After-copy-at in
    let size = c.copy-at.ensures.0.size ∙ c.record-at.ensures.0.size in
    let a = narrow c.args.h.width c.requires.0.narrow in
    let b = narrow c.args.width c.requires.2 in
    rw (c.widths-had.ensures, c.widths-wanted.ensures, c.from.ensures)
    (rw a tt, rw b tt, refl, omega (arith, r.read, p.0), omega (arith, r.written, p.1, size), omega (arith, r.near, p.0), omega (arith, r.near_there, p.1))

pub forged-at-requires : goal.forged-at-requires
unfolding no_wider
forged-at-requires c = let r = there (goal.at.forged-at-requires c).Start in
    let p = place3 (goal.at.forged-at-requires c).After-records-at in
    let size = c.records-at.ensures.0.size ∙ c.copy-at.ensures.0.size ∙ c.record-at.ensures.0.size in
    let a = narrow c.args.h.width c.requires.0.narrow in
    let b = narrow c.args.width c.requires.2 in
    rw (c.widths-had-2.ensures, c.widths-wanted-2.ensures, c.from-2.ensures)
    (rw a tt, rw b tt, refl, omega (arith, r.read, p.0), omega (arith, r.written, p.1, size), omega (arith, r.near, p.0), omega (arith, r.near_there, p.1))

pub copy-at-requires-2 : goal.copy-at-requires-2
copy-at-requires-2 c = let r = there (goal.at.copy-at-requires-2 c).Start in
    let p = place4 (goal.at.copy-at-requires-2 c).After-forged-at in
    let m = c.delay_count.ensures.0 in
    let size = c.forged-at.ensures.0.size ∙ c.records-at.ensures.0.size ∙ c.copy-at.ensures.0.size ∙ c.record-at.ensures.0.size in
    (omega (arith, r.read, p.0, m), omega (arith, r.written, p.1, m, size), omega (arith, r.near, p.0, m), omega (arith, r.near_there, p.1, m))

pub put-requires : goal.put-requires
put-requires c = let r = there (goal.at.put-requires c).Start in
    let p = place5 (goal.at.put-requires c).After-copy-at-2 in
    let e = c.fill.ensures ∙ ap (fill 8) p in
    let size = c.copy-at-2.ensures.0.size ∙ c.forged-at.ensures.0.size ∙ c.records-at.ensures.0.size ∙ c.copy-at.ensures.0.size ∙ c.record-at.ensures.0.size in
    (omega (arith, c.fill.ensures), omega (arith, r.written, p, e, size), omega (arith, r.near_there, p))

pub returns : goal.returns
returns c = let a = c.args in
    let s = a.plan.now in
    -- where both lists of widths are there
    plan_moved a.h.width a.width s (shape a.h) c.requires.1 c.requires.3 _ _ _ _ _ _ _
    (same_record s 0 c.header_widths-had.ensures c.header_widths-wanted.ensures c.record-at.ensures.0)
    (same_bits s header.placement_bits c.moves.ensures.0 (place1 (goal.at.returns c).After-record-at) c.copy-at.ensures.0)
    (same_records s a.h.operations c.widths-had.ensures c.widths-wanted.ensures (place2 (goal.at.returns c).After-copy-at) (rw c.from.ensures at c.records-at.ensures.0))
    (same_records s a.h.forgeries c.widths-had-2.ensures c.widths-wanted-2.ensures (place3 (goal.at.returns c).After-records-at) (rw c.from-2.ensures at c.forged-at.ensures.0))
    (same_bits s header.delay_bits c.delay_count.ensures.0 (place4 (goal.at.returns c).After-forged-at) c.copy-at-2.ensures.0)
    (same_fill c.fill.ensures (place5 (goal.at.returns c).After-copy-at-2) c.put.ensures)
    (λ i. omega (arith, c.slice_known-1.given i)) (λ i. omega (arith, c.type_inv.out i)) c.requires.4
