-- What single steps of the code find: the placement of each tick, and how many forged messages arrive in each.
use Rattle.std.specs.Prelude.{◌≡◌, not, List, ℕ, ◌+◌, ◌*◌, ◌-◌, ◌/◌, ◌<◌, eqb, length, get_or}
use Rattle.bits.specs.Field.{field_of}
use Rattle.register.specs.Lists.{count}
use Rattle.register.specs.Plan.{Plan, Forgery}
use Rattle.traffic.specs.Traffic.{sum}
use Rattle.traffic.specs.Alone.{receipts_of}
use Rattle.plan.specs.Header.{Header, placement_bits, placement_at}
use Rattle.limits.specs.Limits.{most_servers}
use Rattle.limits.specs.Bits.{bit}
use Rattle.tables.specs.declared.Links.{Links}
use Rattle.tables.specs.Links.{link_delay}
use Rattle.tables.specs.Operations.{no_write}
use Rattle.tables.specs.Forged.{forged_at, forged_delay}

-- the most ticks of a plan; those in which what is sent in them can arrive, since no delay is over 15
abbrev pub most_ticks : ℕ
most_ticks = 128

abbrev pub most_arrivals : ℕ
most_arrivals = most_ticks + 15

-- a table has the placement in force after each of the first i ticks
pub record InForce (w : ℕ) (s : List ℕ) (h : Header) (i : ℕ) (table : List ℕ) : Type 0 where
  pub size : length table ≡ most_ticks
  pub each : (t : ℕ) → t < i → get_or table t 0 ≡ field_of s (placement_at w (t / h.period)) placement_bits

-- how many of n servers are not in the placement of the tick before the one in which the WRITE of tick u reaches them
unfoldable pub receipts_by : List ℕ → Links → ℕ → List ℕ → ℕ → ℕ
receipts_by plan links n placements u = count (λ b. not (bit (most_servers - 1 - b) (get_or placements (u + link_delay plan links u n b - 1) 0))) n

-- the receipts of all writes by servers that are not faulty then
unfoldable pub all_receipts : Plan → ℕ
all_receipts P = sum (λ j. receipts_of P (get_or P.writes j no_write).begun) (length P.writes)

-- 64 writes to 16 servers
abbrev pub most_receipts : ℕ
most_receipts = 64 * 16

-- the tick in which forged message e of those from bit `at` on arrives
abbrev pub arrival_at : ℕ → List ℕ → ℕ → List ℕ → Links → ℕ → ℕ
arrival_at w part at plan links e = let g : Forgery = forged_at w part at e in g.at + forged_delay plan links g

-- a table has how many of the first i arrive in each tick
pub record Arrived (arrival : ℕ → ℕ) (i : ℕ) (table : List ℕ) : Type 0 where
  pub size : length table ≡ most_arrivals
  pub each : (t : ℕ) → t < most_arrivals → get_or table t 0 ≡ count (λ e. eqb (arrival e) t) i
