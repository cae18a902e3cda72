-- What the five writes leave, from the header that is listed: the plan's bits.
-- It stands on the law of the parts written one behind the other.
use mathlib.Core.Path.{◌≡◌, ◌∙◌}
use mathlib.Core.List.{List}
use Prim.Native.Nat.{ℕ}
use native.Mathlib.Nat.{one-mul}
use native.Mathlib.Omega.{arith}
use lib.ListN.{length}
use Rattle.bits.specs.Layout.{records, packed_bits}
use Rattle.bits.specs.Writing.{Wrote}
use Rattle.plan.specs.Widths as widths
use Rattle.plan.specs.Header.{Header, header_bits, placement_at, operation_at, forgery_at, moves, delay_count}
use Rattle.lists.specs.Lists.{Lists, Full, listed, plan_bits}
use Rattle.lists.proofs.Writing.{plan_written}
use Rattle.pack.specs.Numbered.{Listed}

-- the header's, the operations' and the forgeries' widths are handed over as the code has them
pub all_written : (w : ℕ) (l : Lists) (h : Header) (p : Listed w l h) (m at_p at-o at_f at-d : ℕ) (hs os fs : List ℕ) (a b c d e f : List ℕ)
    → m ≡ moves h → at_p ≡ placement_at w 0 → at-o ≡ placement_at w (moves h) → at_f ≡ operation_at w h h.operations → at-d ≡ forgery_at w h h.forgeries
    → hs ≡ widths.header_widths w → os ≡ widths.operation_widths w → fs ≡ widths.forgery_widths w
    → Wrote a b 0 (packed_bits hs l.header)
    → Wrote b c at_p (packed_bits (records m widths.placement_widths) l.placements)
    → Wrote c d at-o (packed_bits (records h.operations os) l.operations)
    → Wrote d e at_f (packed_bits (records h.forgeries fs) l.forgeries)
    → Wrote e f at-d (packed_bits (records (length l.delays) widths.delay_widths) l.delays)
    → Wrote a f 0 (plan_bits w l)
all_written w l h p m at_p at-o at_f at-d hs os fs a b c d e f em ep eo ef ed eh es eg W1 W2 W3 W4 W5 =
    let full : Full w (listed l) l = let z = p.full in rw p.header at z in
    let count : length l.delays ≡ delay_count (listed l) = full.delays ∙ one-mul (delay_count (listed l)) in
    let first : at_p ≡ header_bits w = omega arith in
    plan_written w l p.fit full a b c d e f (rw eh at W1) (rw (em, first, p.header) at W2) (rw (eo, es, p.header) at W3) (rw (ef, eg, p.header) at W4) (rw (ed, p.header, count) at W5)
