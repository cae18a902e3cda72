-- The known pairs of a plan: its initial value and its writes, by number.
use Rattle.std.specs.Prelude.{◌≡◌, ℕ, ◌^◌, ◌≤◌, ◌<◌, get_or}
use Rattle.register.specs.Lists.{In}
use Rattle.register.specs.Plan.{Plan, Write, Read, stamped}
use Rattle.plan.specs.Packed.{store_depth}
use Rattle.limits.specs.Limits.{most_servers, most_readers, places}
use Rattle.tables.specs.declared.Known.{Known}

-- the plan's pair j: value j of the known ones, of w bits, under number j
abbrev pub pair_at : ℕ → Known → ℕ → ℕ
pair_at w known j = stamped w (get_or known.values j 0) j

-- the values have no more bits than the plan's
abbrev pub Narrow : ℕ → Known → Type 0
Narrow w known = (j : ℕ) → get_or known.values j 0 < 2 ^ w

-- the plan's pairs are g 0 .. g (m - 1), of a table that strictly rises
pub record Knows (P : Plan) (g : ℕ → ℕ) (m : ℕ) : Type 0 where
  pub few : m ≤ places
  pub servers : P.n ≤ most_servers
  pub slow : P.delta ≤ 15
  pub depth : P.depth ≡ store_depth
  pub rising : (i j : ℕ) → i < j → g i < g j
  pub first : (0 < m) × (P.initial ≡ g 0)
  pub write : (w : Write) → In w P.writes → (j : ℕ) × (j < m) × (w.pair ≡ g j)
  pub readers : (r : Read) → In r P.reads → (1 ≤ r.reader) × (r.reader ≤ most_readers)
