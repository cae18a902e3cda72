-- The delays of the links, in the plan's bits: one place, one function, one hypothesis.
use Rattle.std.specs.Prelude.{List, ℕ, ◌+◌, ◌*◌, ◌^◌, ◌≤◌, ◌<◌}
use Rattle.bits.specs.Field.{field_of}
use Rattle.plan.specs.Header.{delay_bits, link_at, DelaysIn}
use Rattle.limits.specs.Limits.{most_servers}
use Rattle.tables.specs.declared.Links.{Links}

-- the bit where the delay of tick u from party i to party b stands
unfoldable pub link_bit : Links → ℕ → ℕ → ℕ → ℕ
link_bit links u i b = link_at links.at links.parties u i b

abbrev pub link_delay : List ℕ → Links → ℕ → ℕ → ℕ → ℕ
link_delay plan links u i b = field_of plan (link_bit links u i b) delay_bits

-- n servers, a writer and some readers; the delays of all ticks below t lie in the plan
pub record Linked (plan : List ℕ) (links : Links) (n t : ℕ) : Type 0 where
  pub start : links.at < 2 ^ 32
  pub ticks : t ≤ 128
  pub servers : n ≤ most_servers
  pub writer : n < links.parties
  pub readers : links.parties ≤ n + 8
  pub inside : DelaysIn plan links.at (t * (links.parties * links.parties))

-- the delay of tick u from party i to party b lies in the plan
pub record Reach (plan : List ℕ) (links : Links) (n u i b : ℕ) : Type 0 where
  pub linked : Linked plan links n (u + 1)
  pub sender : i < links.parties
  pub receiver : b < links.parties
