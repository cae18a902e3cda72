-- The parts of a plan moved one behind the other, then zero bits to the byte's end: the carried plan.
-- It stands on the laws of carried lists and of the writer.
use mathlib.Core.Path.{◌≡◌, sym}
use mathlib.Core.Bool.{true}
use mathlib.Core.List.{List, ◌++◌}
use Prim.Native.Nat.{ℕ, ◌+◌, ◌*◌, ◌≤◌}
use native.Mathlib.Omega.{arith}
use lib.Dec.{lit≤}
use lib.ListN.{length, drop}
use Rattle.bits.specs.{Field.field_of, Field.Bytes, Fill.fill, Fill.bytes_for, Layout.total, Layout.records, Layout.numbers_at, Layout.bits_of, Layout.packed_bits, Writing.Wrote}
use Rattle.bits.proofs.{Filling.fill_units, Packing.packed_numbers, Packing.in_length, Records.total_records, Started.wrote_filled}
use Rattle.plan.specs.Widths as widths
use Rattle.plan.specs.{Form.most_width, Header.Header, Header.header_of, Limits.most_bits, Shape.Sized}
use Rattle.plan.specs.Header as header
use Rattle.plan.proofs.Sizes.{sizes}
use Rattle.lists.specs.Lists.{Lists, lists_of, plan_bits, packed_plan, operations_widths, forgeries_widths}
use Rattle.lists.proofs.{Inverse.Fit, Inverse.fit_full, Inverse.plan_length, Inverse.plan_small, Writing.plan_written}
use Rattle.carrying.specs.Carrying.{carried_plan, values_fit}
use Rattle.carrying.proofs.{Fitting.fit_lists, Checked.carried_whole}

-- bits that are copied are so many records, packed by the widths that they have
copied : (vs s : List ℕ) (m at : ℕ) → bits_of (total vs * m) (field_of s at (total vs * m)) ≡ packed_bits (records m vs) (numbers_at (records m vs) s at)
copied vs s m at = rw (← total_records vs m) (sym (packed_numbers (records m vs) s at))

-- The widths, places and counts that the code has are those of the definitions, so it has written what they say.
module _ (s : List ℕ) {a b : List ℕ} where
  pub same_record : {vs vs' ws ws' : List ℕ} (from : ℕ) {to : ℕ} → vs ≡ vs' → ws ≡ ws'
      → Wrote a b to (packed_bits ws (numbers_at vs s from)) → Wrote a b to (packed_bits ws' (numbers_at vs' s from))
  same_record from e f W = rw (e, f) at W

  pub same_records : {vs vs' ws ws' : List ℕ} {from from' to to' : ℕ} (m : ℕ) → vs ≡ vs' → ws ≡ ws' → (from ≡ from') × (to ≡ to')
      → Wrote a b to (packed_bits (records m ws) (numbers_at (records m vs) s from)) → Wrote a b to' (packed_bits (records m ws') (numbers_at (records m vs') s from'))
  same_records m e f p W = rw (e, f, p.0, p.1) at W

  pub same_bits : {from from' to to' n n' : ℕ} (part : ℕ) → n ≡ n' → (from ≡ from') × (to ≡ to')
      → Wrote a b to (bits_of (part * n) (field_of s from (part * n))) → Wrote a b to' (bits_of (part * n') (field_of s from' (part * n')))
  same_bits part e p W = rw (e, p.0, p.1) at W

pub same_fill : {a b : List ℕ} {at at' n : ℕ} → n ≡ fill 8 at → at ≡ at' → Wrote a b at (bits_of n 0) → Wrote a b at' (bits_of (fill 8 at') 0)
same_fill e p W = rw (e, p) at W

-- both plans lie in their bytes, and are not long
pub record Rooms (v w : ℕ) (h : Header) (s out : List ℕ) : Type 0 where
  pub read : header.bit_length v h ≤ 8 * length s
  pub written : header.bit_length w h + fill 8 (header.bit_length w h) ≤ 8 * length out
  pub near : header.bit_length v h ≤ most_bits
  pub near_there : header.bit_length w h ≤ most_bits

module _ (v w : ℕ) (s : List ℕ) (h : Header) (is : h ≡ header_of v s) (fit : values_fit v w s ≡ true) where
  pub carried_size : length (carried_plan v w s) ≡ bytes_for (header.bit_length w h)
  carried_size = rw is (carried_whole v w s fit).size

  pub rooms : Sized v s h → w ≤ most_width → (out : List ℕ) → length (carried_plan v w s) ≤ length out → Rooms v w h s out
  rooms z narrow out room =
      let there = sizes w (carried_plan v w s) h z.ranged narrow carried_size in
      let units = fill_units 8 (header.bit_length v h) (lit≤ tt) in
      let units-there = fill_units 8 (header.bit_length w h) (lit≤ tt) in
      record {
        read = omega (arith, z.size);
        written = omega (arith, carried_size);
        near = z.bits_hi;
        near_there = there.bits_hi;
      }

  pub plan_moved : (a b c d e f g : List ℕ)
      → Wrote a b 0 (packed_bits (widths.header_widths w) (numbers_at (widths.header_widths v) s 0))
      → Wrote b c (header.header_bits w) (bits_of (header.placement_bits * header.moves h) (field_of s (header.placement_at v 0) (header.placement_bits * header.moves h)))
      → Wrote c d (header.placement_at w (header.moves h)) (packed_bits (operations_widths w h) (numbers_at (operations_widths v h) s (header.operation_at v h 0)))
      → Wrote d e (header.operation_at w h h.operations) (packed_bits (forgeries_widths w h) (numbers_at (forgeries_widths v h) s (header.forgery_at v h 0)))
      → Wrote e f (header.forgery_at w h h.forgeries) (bits_of (header.delay_bits * header.delay_count h) (field_of s (header.delay_at v h 0 0 0) (header.delay_bits * header.delay_count h)))
      → Wrote f g (header.bit_length w h) (bits_of (fill 8 (header.bit_length w h)) 0)
      → Bytes a → Bytes g → length (carried_plan v w s) ≤ length a
      → g ≡ carried_plan v w s ++ drop (length (carried_plan v w s)) a
  unfolding lists_of header_of carried_plan packed_plan
  plan_moved a b c d e f g W1 W2 W3 W4 W5 W6 bytes-a bytes-g room =
      let l : Lists = lists_of v s in
      let lists_fit : Fit w l = fit_lists v w s fit in
      let full = fit_full w l lists_fit in
      let h' : Header = header_of v s in
      let P = rw (copied widths.placement_widths s (header.moves h') (header.placement_at v 0)) at (rw is at W2) in
      let D = rw (copied widths.delay_widths s (header.delay_count h') (header.delay_at v h' 0 0 0)) at (rw is at W5) in
      let all = plan_written w l lists_fit.header full a b c d e f W1 P (rw is at W3) (rw is at W4) D in
      let size : length (plan_bits w l) ≡ header.bit_length w h' = plan_length w l lists_fit.header full in
      let small = plan_small w l in
      let long : length (carried_plan v w s) ≡ bytes_for (length (plan_bits w l)) = in_length (plan_bits w l) small in
      rw long (wrote_filled (plan_bits w l) small all (rw (is, ← size) at W6) bytes-a bytes-g (rw long at room))
