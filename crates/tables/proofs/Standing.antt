-- The operations that stand from the first bit behind the header's placements on are the plan's.
-- It stands on Placing.
use mathlib.Core.Path.{◌≡◌, ap, ◌∙◌}
use mathlib.Core.List.{List}
use Prim.Native.Nat.{ℕ, ◌^◌, ◌≤◌, ◌<◌}
use native.Mathlib.Omega.{arith}
use Rattle.bits.proofs.Laws.{field_lt}
use Rattle.register.specs.Lists.{tab}
use Rattle.plan.specs.declared.header.Shape.{Shape}
use Rattle.plan.specs.Form.{most_width}
use Rattle.plan.specs.Header.{Header, header_of, placement_at, moves}
use Rattle.plan.specs.Parts.{operation_of, operations_of, writes_from, reads_from}
use Rattle.plan.specs.Packed.{plan_of}
use Rattle.plan.specs.Playable.{Playable}
use Rattle.plan.specs.Shape.{shape}
use Rattle.plan.proofs as plan-laws
use Rattle.tables.specs.Operations.{op_at, Room}
use Rattle.tables.proofs.Placing.{bits_inside, few_moves}

-- the initial value of a header has w bits
pub initial_narrow : (w : ℕ) (s : List ℕ) (x : Shape) → shape x ≡ header_of w s → x.initial < 2 ^ w
unfolding header_of
initial_narrow w s x e = rw (ap (λ (h : Header). h.initial) e) (field_lt s 28 w)

module _ (w : ℕ) (s : List ℕ) (A : Playable w s) (x : Shape) (same : shape x ≡ header_of w s) (at : ℕ) (starts-at : at ≡ placement_at w (moves (shape x))) where
  first_bit : at ≡ placement_at w (moves (header_of w s))
  first_bit = starts-at ∙ ap (λ (h : Header). placement_at w (moves h)) same

  counted : x.operations ≡ (header_of w s).operations
  counted = ap (λ (h : Header). h.operations) same

  pub writes_same : writes_from w 1 (tab x.operations (op_at w s at)) ≡ (plan_of w s).writes
  unfolding plan_of operations_of operation_of
  writes_same = rw (first_bit, counted)

  pub reads_same : reads_from (tab x.operations (op_at w s at)) ≡ (plan_of w s).reads
  unfolding plan_of operations_of operation_of
  reads_same = rw (first_bit, counted)

  pub operations_room : w ≤ most_width → Room w s at x.operations
  operations_room narrow = record {
    narrow = narrow;
    inside = rw counted (omega (arith, first_bit, bits_inside w s A));
    start = omega (arith, first_bit, few_moves w s A);
    few = omega (arith, counted, (plan-laws.Accept.in_range w s A).operations_hi);
    writes = rw writes_same (plan-laws.AcceptWrites.few_writes w s A);
  }
