-- What one party sends in a tick to the servers, from the delays that stand in the plan's bits.
use Rattle.std.specs.Prelude.{◌≡◌, List, ℕ, ◌+◌, ◌*◌, ◌-◌, ◌/◌, ◌%◌, ◌^◌, ◌≤◌, ◌<◌}
use Rattle.bits.specs.Field.{field_of}
use Rattle.plan.specs.Header.{delay_bits}
use Rattle.tables.specs.declared.sending.Sending.{Sending}

-- the tick in which what is sent reaches server b: the delays are nibbles, the last server's lowest
unfoldable pub arrival_of : Sending → ℕ → ℕ
arrival_of s b = s.tick + s.delays / 2 ^ (delay_bits * (s.n - 1 - b)) % 2 ^ delay_bits

-- server i sends in tick t to m servers: the delays stand in the plan's bits
pub record Sent (plan : List ℕ) (at m t i : ℕ) (s : Sending) : Type 0 where
  pub tick : s.tick ≡ t
  pub sender : s.sender ≡ i
  pub servers : s.n ≡ m
  pub arrives : (b : ℕ) → b < m → arrival_of s b ≡ t + field_of plan (at + delay_bits * b) delay_bits

-- at most 16 servers, at a tick that a sum does not overflow
pub record Sendable (s : Sending) : Type 0 where
  pub servers : s.n ≤ 16
  pub early : s.tick < 65536
