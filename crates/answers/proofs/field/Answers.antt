-- `field` meets its contract.
use mathlib.Core.Path.{◌≡◌}
use mathlib.Core.List.{List}
use Prim.Native.Nat.{ℕ, ◌*◌, ◌≤◌}
use native.Mathlib.Omega.{arith}
use lib.ListN.{length, get_or}
use borrow.Author.Tests.{le-leb}
use Rattle.bits.specs.Layout.{numbers_at}
use Rattle.records.specs.Records.{no_wider}
use Rattle.plan.specs.Form.{most_width}
use Rattle.answers.specs.Answers.{answer_bits, answer_size}
use Rattle.answers.proofs.Lengths.{answer_few, answer_inside, bits_before, bits_inside}
use Rattle.answers.proofs.field.Goals as goal

small : (w size : ℕ) → size ≡ answer_size w → w ≤ most_width → size ≤ 6
small w size e h = rw e (answer_few w h)

-- the field that was read is the one that the definition names
same : (vs ws a : List ℕ) (m n i number r : ℕ) → vs ≡ ws → m ≡ n → r ≡ get_or (numbers_at vs a (8 * m * i)) number 0 → r ≡ get_or (numbers_at ws a (8 * n * i)) number 0
same vs ws a m n i number r e f h = rw (← e, ← f) h

pub overflow_mul-size-2 : goal.overflow_mul-size-2
overflow_mul-size-2 c = omega (arith, bits_before c.size.result c.args.i (small _ c.size.result c.size.ensures (omega arith)) (omega arith))

pub field-requires : goal.field-requires
unfolding no_wider
field-requires c = let a = c.args in
    let size = answer_size a.width in
    let before = bits_before size a.i (answer_few a.width (omega arith)) (omega arith) in
    rw (c.widths.ensures, c.size.ensures)
    (record {
      inside = bits_inside size (answer_bits a.width) a.i (length a.answers.now) (answer_inside a.width) (omega arith);
      near = omega (arith, before);
      narrow = rw (le-leb a.width 32 (omega arith)) tt;
    })

pub returns : goal.returns
returns c = let e = c.widths.ensures in
    let f = c.size.ensures in
    (same _ _ _ _ _ _ _ _ e f c.field.ensures.0, rw e at c.field.ensures.1)
