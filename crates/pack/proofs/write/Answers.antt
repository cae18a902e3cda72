-- `write` meets its contract: each part begins where the one before it ends.
use mathlib.Core.Path.{◌∙◌}
use native.Mathlib.Omega.{arith}
use Rattle.plan.specs.Shape.{shape}
use Rattle.plan.proofs.Sizes.{delays_few}
use Rattle.pack.specs.Numbered.{with_header}
use Rattle.pack.proofs.Writes.{all_written}
use Rattle.pack.proofs.write.Goals.{Start}
use Rattle.pack.proofs.write.Goals as goal

pub put-requires : goal.put-requires
put-requires c = let p = c.requires in
    let at = c.delays_at.ensures.1 in
    let few = delays_few (shape c.args.h) p.2.ranged in
    let size = c.put_all-3.ensures.size ∙ c.put_all-2.ensures.size ∙ c.put_all.ensures.size ∙ c.put_fields.ensures.size in
    (omega (arith, p.0, size, p.2.full.delays, few, at), omega (arith, at), omega (arith, p.2.full.delays, few))

pub returns : goal.returns
returns c = let a = c.args in
    let l = with_header a.header.now a.parts.now in (
      λ i. omega (arith, c.type_inv.own i),
      all_written a.h.width l (shape a.h) c.requires.2 _ _ _ _ _ _ _ _ _ _ _ _ _ _
          c.moves.ensures.0
          c.placement_at.ensures
          c.operations_at.ensures.0
          c.forgeries_at.ensures.0
          c.delays_at.ensures.0
          c.header_widths-widths.ensures
          c.widths-widths.ensures
          c.widths-widths-2.ensures
          c.put_fields.ensures
          c.put_all.ensures
          (rw c.from.ensures at c.put_all-2.ensures)
          (rw c.from-2.ensures at c.put_all-3.ensures)
          c.put.ensures,
    )
