-- The delays of one sender, read from the plan as one number.
use mathlib.Core.Path.{◌≡◌, sym, ap}
use mathlib.Core.List.{List}
use Prim.Native.Nat.{ℕ, ◌+◌, ◌*◌, ◌-◌, ◌/◌, ◌%◌, ◌^◌, ◌≤◌, ◌<◌}
use native.Mathlib.Nat.{lt_of_lt_of_le}
use native.Mathlib.Omega.{arith}
use lib.Pow.{pow_mono}
use Rattle.bits.specs.Field.{field_of}
use Rattle.bits.proofs.Laws.{field_lt, field_split, field_inner}
use Rattle.tables.specs.declared.sending.Sending.{Sending}
use Rattle.tables.specs.Sending.{arrival_of, Sent, Sendable}

-- more than 56 bits, in two reads
pub two_reads : (plan : List ℕ) (at w n : ℕ) → 4 * n ≡ 32 + w → n ≤ 16 → field_of plan at 32 * 2 ^ w % 2 ^ 64 + field_of plan (at + 32) w ≡ field_of plan at (4 * n)
two_reads plan at w n e h =
    let all = lt_of_lt_of_le (field_lt plan at (32 + w)) (pow_mono {i = 32 + w} {j = 64} (omega arith)) in
    rw e (omega (arith, all, field_split plan at 32 w))

pub sent : (plan : List ℕ) (at m t i : ℕ) (s : Sending) → s.tick ≡ t → s.sender ≡ i → s.n ≡ m → s.delays ≡ field_of plan at (4 * m) → Sent plan at m t i s
unfolding arrival_of
sent plan at m t i s p q d f = record { tick = p; sender = q; servers = d; arrives = λ b l. rw (p, d, f) (there b l) }
  where
    there : (b : ℕ) → b < m → t + field_of plan at (4 * m) / 2 ^ (4 * (m - 1 - b)) % 16 ≡ t + field_of plan (at + 4 * b) 4
    there b l =
        let e : 4 * b + 4 + 4 * (m - 1 - b) ≡ 4 * m = omega arith in
        ap (λ (x : ℕ). t + x) (sym (rw e at (field_inner plan at (4 * b) 4 (4 * (m - 1 - b)))))

-- what was read may be posted
pub sent_sendable : (plan : List ℕ) (at m t i : ℕ) (s : Sending) → m ≤ 16 → t < 65536 → Sent plan at m t i s → Sendable s
sent_sendable plan at m t i s h g S = record { servers = omega (arith, S.servers); early = omega (arith, S.tick) }
