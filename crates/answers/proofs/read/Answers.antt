-- `read` meets its contract: the fields are parts of one number.
use mathlib.Core.Path.{◌≡◌, ap, ◌∙◌}
use mathlib.Core.List.{List}
use Prim.Native.Nat.{ℕ}
use native.Mathlib.Omega.{arith}
use lib.ListN.{length, get_or}
use Rattle.bits.specs.Field.{field_of}
use Rattle.register.specs.Plan.{stamped}
use Rattle.plan.proofs.Sizes.{narrow_value}
use Rattle.answers.specs.Answers.{answer_bits, answer_size, answer_at, begin_in, reader_in, pair_in, count_in, zero_in}
use Rattle.answers.proofs.Lengths.{answer_few, answer_inside, bits_before, bits_inside}
use Rattle.answers.proofs.Taken.{answer_taken}
use Rattle.answers.proofs.read.Goals as goal

pub overflow_mul-size-2 : goal.overflow_mul-size-2
overflow_mul-size-2 c = omega (arith, bits_before c.size.result c.args.i (rw c.size.ensures (answer_few c.args.width (omega arith))) (omega arith))

pub field-all-requires : goal.field-all-requires
field-all-requires c = let a = c.args in
    let size = answer_size a.width in
    let before = bits_before size a.i (answer_few a.width (omega arith)) (omega arith) in
    rw (c.size.ensures, c.bits.ensures)
    (omega arith, bits_inside size (answer_bits a.width) a.i (length a.answers.now) (answer_inside a.width) (omega arith), omega (arith, before))

pub overflow_cast-result-3 : goal.overflow_cast-result-3
overflow_cast-result-3 c = omega (arith, narrow_value _ _ (omega arith) (rw c.from.ensures at c.part-3.ensures.1))

pub returns : goal.returns
unfolding begin_in reader_in pair_in count_in zero_in
returns c = let a = c.args in
    let same : c.field-all.result ≡ field_of a.answers.now (answer_at a.width a.answers.now a.i) (answer_bits a.width) =
    c.field-all.ensures.0 ∙ rw (c.size.ensures, c.bits.ensures) in
    let e = answer_taken a.width a.answers.now a.i c.field-all.result same in
    let at : ℕ → List ℕ → ℕ = λ n l. get_or l n 0 in
    record {
      begin = c.part.ensures.0 ∙ ap (at 0) e;
      reader = c.part-2.ensures.0 ∙ ap (at 1) e;
      pair = rw (c.part-3.ensures.0, c.part-4.ensures.0, c.from.ensures) (ap (λ (l : List ℕ). stamped a.width (at 2 l) (at 3 l)) e);
      count = c.part-5.ensures.0 ∙ ap (at 4) e;
      zero_bit = c.part-6.ensures.0 ∙ ap (at 5) e;
      value_hi = rw c.from.ensures at c.part-3.ensures.1;
    }
