-- The reads of a plan are those that its list of operations says.
-- It stands on the law of a record among others, and on that of the reads of a plan.
use mathlib.Core.Path.{◌≡◌, ◌∙◌, ap, sym}
use mathlib.Core.Bool.{not}
use mathlib.Core.List.{List}
use Prim.Native.Nat.{ℕ, ◌+◌, ◌*◌, ◌<◌}
use native.Mathlib.Omega.{arith}
use lib.Dec.{eqb, lit<}
use lib.ListN.{length, get_or, drop}
use lib.Seq.{get_or-take, get_or-drop}
use Rattle.bits.specs.Layout.{total, numbers_at}
use Rattle.bits.proofs.Records.{record_at}
use Rattle.register.proofs as register-laws
use Rattle.plan.specs.Widths.{operation_widths}
use Rattle.plan.specs.Header.{Header, header_of, operation_at}
use Rattle.plan.specs.Parts.{operations_of, operation_of}
use Rattle.plan.specs.Packed.{plan_of}
use Rattle.plan.proofs.Reading.{length_reads}
use Rattle.lists.specs.Lists.{lists_of, reads_listed}

module _ (w : ℕ) (s : List ℕ) where
  h : Header
  h = header_of w s

  -- number j of operation i
  field-listed : (i j : ℕ) → i < h.operations → j < 3
      → get_or (lists_of w s).operations (3 * i + j) 0 ≡ get_or (numbers_at (operation_widths w) s (operation_at w h i)) j 0
  unfolding lists_of h
  field-listed i j l k =
      let e = record_at (operation_widths w) s h.operations i (operation_at w h 0) l in
      let place : operation_at w h 0 + total (operation_widths w) * i ≡ operation_at w h i = omega arith in
      sym (get_or-take 3 (drop (3 * i) (lists_of w s).operations) j 0 k ∙ get_or-drop (3 * i) (lists_of w s).operations j 0)
      ∙ ap (λ (xs : List ℕ). get_or xs j 0) e
      ∙ ap (λ (at : ℕ). get_or (numbers_at (operation_widths w) s at) j 0) place

  pub reads_listed_lem : length (plan_of w s).reads ≡ reads_listed w (lists_of w s)
  unfolding plan_of operations_of operation_of lists_of header_of h
  reads_listed_lem =
      length_reads h.operations (operation_of w s h)
      ∙ register-laws.Counting.count_cong (λ i. not (eqb (operation_of w s h i).party 0)) (λ i. not (eqb (get_or (lists_of w s).operations (3 * i + 1) 0) 0)) h.operations (λ i l.
      ap (λ (p : ℕ). not (eqb p 0)) (sym (field-listed i 1 l (lit< tt))))
