-- The parts of a plan written one behind the other are the plan's bits.
-- It stands on the laws of the writer and on where each part ends.
use mathlib.Core.Path.{◌≡◌, ◌∙◌, sym}
use mathlib.Core.Bool.{true}
use mathlib.Core.List.{List, ◌++◌}
use Prim.Native.Nat.{ℕ, ◌+◌}
use native.Mathlib.Nat.{zero-add}
use lib.ListN.{length}
use Rattle.bits.specs.Layout.{fits}
use Rattle.bits.specs.Writing.{Wrote}
use Rattle.bits.proofs.Written.{wrote_then}
use Rattle.plan.specs.Widths.{header_widths}
use Rattle.plan.specs.Header.{header_bits, placement_at, operation_at, forgery_at, moves}
use Rattle.lists.specs.Lists.{Lists, Full, listed, plan_bits}
use Rattle.lists.proofs.Inverse as inverse

-- a write from the first bit on, and one where it ends
then : (a b c : List ℕ) (at : ℕ) (x y : List ℕ) → Wrote a b 0 x → length x ≡ at → Wrote b c at y → Wrote a c 0 (x ++ y)
then a b c at x y W e X =
    let f : at ≡ 0 + length x = sym e ∙ sym (zero-add (length x)) in
    wrote_then {at = 0} W (rw f at X)

module _ (w : ℕ) (l : Lists) (fit : fits (header_widths w) l.header ≡ true) (full : Full w (listed l) l) where
  pub plan_written : (a b c d e f : List ℕ)
      → Wrote a b 0 (inverse.H w l)
      → Wrote b c (header_bits w) (inverse.P w l)
      → Wrote c d (placement_at w (moves (listed l))) (inverse.O w l)
      → Wrote d e (operation_at w (listed l) (listed l).operations) (inverse.F w l)
      → Wrote e f (forgery_at w (listed l) (listed l).forgeries) (inverse.D w l)
      → Wrote a f 0 (plan_bits w l)
  plan_written a b c d e f W1 W2 W3 W4 W5 =
      let V2 = then a b c _ _ _ W1 (inverse.end_H w l fit full) W2 in
      let V3 = then a c d _ _ _ V2 (inverse.end_P w l fit full) W3 in
      let V4 = then a d e _ _ _ V3 (inverse.end_O w l fit full) W4 in
      let V5 = then a e f _ _ _ V4 (inverse.end_F w l fit full) W5 in
      rw (← inverse.left_same w l fit full) V5
