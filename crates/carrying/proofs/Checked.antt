-- Check says the same of a plan and of the plan that it is carried to.
-- It stands on the tests of two plans with the same lists, and on the laws of packing lists.
use mathlib.Core.Path.{◌≡◌, sym}
use mathlib.Core.Bool.{true}
use mathlib.Core.List.{List}
use Prim.Native.Nat.{ℕ, ◌+◌, ◌≤◌}
use native.Mathlib.Omega.{arith}
use lib.ListN.{length}
use borrow.Author.Tests.{le-leb, eq-eqb}
use Rattle.bits.specs.{Field.field_of, Fill.fill, Fill.bytes_for}
use Rattle.bits.proofs.{Laws.field_lt, Packing.in_final}
use Rattle.register.proofs.{Logic.T_eq}
use Rattle.plan.specs.{Header.Header, Header.header_of, Header.header_bits, Header.bit_length, Shape.Ranged}
use Rattle.plan.specs.Check.{refused, header_in_range, final_bits_zero, check_of}
use Rattle.plan.proofs.{Final.bytes_rounded, Ranges.ranged}
use Rattle.lists.specs.Lists.{Lists, listed, lists_of, plan_bits, packed_plan}
use Rattle.lists.proofs.{Inverse.Fit, Inverse.fit_full, Inverse.plan_length, Inverse.plan_bytes, Inverse.plan_small, Again.listed_same}
use Rattle.carrying.specs.{Carrying.carried_plan, Carrying.values_fit, Checked.Whole, Checked.CheckedAlike}
use Rattle.carrying.proofs as own
use Rattle.carrying.proofs.Choice.{cond_when}

-- the header is no longer than the plan
header_long : (w : ℕ) (h : Header) → bytes_for (header_bits w) ≤ bytes_for (bit_length w h)
header_long w h = rw (bytes_rounded (header_bits w), bytes_rounded (bit_length w h)) (omega arith)

operations_few : (v : ℕ) (s : List ℕ) → (header_of v s).operations ≤ 255
unfolding header_of
operations_few v s = omega (arith, field_lt s (28 + v) 8)

-- lists that fit are packed with zero bits to the byte's end
packed_final : (w : ℕ) (l : Lists) → Fit w l → final_bits_zero w (packed_plan w l) (listed l) ≡ true
unfolding final_bits_zero packed_plan
packed_final w l f =
    let n = bit_length w (listed l) in
    let e = plan_length w l f.header (fit_full w l f) in
    let z : field_of (packed_plan w l) n (fill 8 n) ≡ 0 = rw (← e) (in_final (plan_bits w l) (plan_small w l) (fill 8 (length (plan_bits w l)))) in
    eq-eqb (field_of (packed_plan w l) n (fill 8 n)) 0 z

pub check_alike : (v w : ℕ) (s t : List ℕ) → lists_of v s ≡ lists_of w t → Whole v s (header_of v s) → Whole w t (header_of v s) → check_of w t ≡ check_of v s
unfolding check_of
check_alike v w s t same a b =
    let h = header_of v s in
    let ranges : header_in_range h ≡ true → Ranged h = λ e. ranged h e (operations_few v s) in
    let long-s = le-leb (bytes_for (header_bits v)) (length s) (rw a.size (header_long v h)) in
    let long-t = le-leb (bytes_for (header_bits w)) (length t) (rw b.size (header_long w h)) in
    rw (own.Alike.header_alike v w s t same, long-s, long-t)
    (cond_when (header_in_range h) _ _ (refused 2) (λ p.
    let r = ranges (T_eq (header_in_range h) p) in
    rw (
      eq-eqb _ _ a.size,
      eq-eqb _ _ b.size,
      own.AlikeTests.placements_test v w s t same r,
      own.AlikeTests.operations_test v w s t same,
      own.AlikeForgeries.forgeries_test v w s t same r,
      own.AlikeTests.delays_test v w s t same,
      a.final,
      b.final,
      own.AlikePlan.reads_alike v w s t same,
    )))

module _ (v w : ℕ) (s : List ℕ) where
  -- the carried plan has the bytes that its header implies
  pub carried_whole : values_fit v w s ≡ true → Whole w (carried_plan v w s) (header_of v s)
  unfolding carried_plan
  carried_whole fit =
      let l = lists_of v s in
      let f = own.Fitting.fit_lists v w s fit in
      record {
        size = rw (← listed_same v s) (plan_bytes w l f.header (fit_full w l f));
        final = rw (← listed_same v s) (packed_final w l f);
      }

  -- 'all checks keep numbers and order'
  pub carried_checked : CheckedAlike v w s
  carried_checked fit whole = check_alike v w s (carried_plan v w s) (sym (own.Fitting.carried_lists v w s fit)) whole (carried_whole fit)
