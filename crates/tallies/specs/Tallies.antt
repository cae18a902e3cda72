-- The table of sets, where each row of it stands, and what the operations on it do. A cell is the set of servers, as the bits of a number, that voted
-- for a pair or named it; a row has a cell for each known pair:
--     0  of each server, who voted in the present period
--  1040  of each server, who voted in the last k periods together, the present included
--  2080  of each reader, who named the pair to its last read
use Rattle.std.specs.Prelude.{◌≡◌, Bool, false, ◌&&◌, ◌||◌, cond, ◌⊎◌, List, ℕ, ◌+◌, ◌*◌, ◌≤◌, ◌<◌, ltb, length, get_or}
use Rattle.limits.specs.Bits.{bit}
use Rattle.limits.specs.Limits.{most_servers, most_readers, places}

-- from a cell of the present period to that of the last k periods
abbrev pub recent_at : ℕ
recent_at = most_servers * places

-- the cell at which the readers' rows begin
abbrev pub named_at : ℕ
named_at = 2 * recent_at

abbrev pub table_size : ℕ
table_size = named_at + most_readers * places

-- where the row of server b begins, for the present period
abbrev pub of_server : ℕ → ℕ
of_server b = places * b

-- where the row of reader x begins, from 0 on
abbrev pub of_reader : ℕ → ℕ
of_reader x = named_at + places * x

-- server i is in the set of a cell
abbrev pub holds : List ℕ → ℕ → ℕ → Bool
holds sets c i = bit i (get_or sets c 0)

-- of the m known pairs, those that server i voted for, in the row that begins at `at`
abbrev pub row_of_sets : ℕ → List ℕ → ℕ → ℕ → ℕ → Bool
row_of_sets m sets at j i = ltb j m && holds sets (at + j) i

-- a row in which nobody is
abbrev pub no_votes : ℕ → ℕ → Bool
no_votes j i = false

-- a row with what arrives for the m known pairs
abbrev pub joined : ℕ → (ℕ → ℕ → Bool) → (ℕ → ℕ → Bool) → ℕ → ℕ → Bool
joined m votes got j i = votes j i || (ltb j m && got j i)

-- a cell is outside the row that begins at `at`
abbrev pub Outside : ℕ → ℕ → Type 0
Outside at c = (c < at) ⊎ (at + places ≤ c)

-- in the row that begins at `at` the servers of f (pair, server) have joined; the other cells stay
pub record Joined (sets r : List ℕ) (at : ℕ) (f : ℕ → ℕ → Bool) : Type 0 where
  pub size : length r ≡ length sets
  pub each : (j i : ℕ) → j < places → holds r (at + j) i ≡ (holds sets (at + j) i || f j i)
  pub rest : (c : ℕ) → Outside at c → get_or r c 0 ≡ get_or sets c 0

-- nobody is in the row that begins at `at`; the other cells stay
pub record Emptied (sets r : List ℕ) (at : ℕ) : Type 0 where
  pub size : length r ≡ length sets
  pub each : (j : ℕ) → j < places → get_or r (at + j) 0 ≡ 0
  pub rest : (c : ℕ) → Outside at c → get_or r c 0 ≡ get_or sets c 0

-- a new voting period in the cells below `end`: of the last k periods, the new one included, the last one's votes count if k is 2, and else none
pub record Aged (sets r : List ℕ) (end : ℕ) (two : Bool) : Type 0 where
  pub size : length r ≡ length sets
  pub fresh : (c : ℕ) → c < end → get_or r c 0 ≡ 0
  pub recent : (c : ℕ) → c < end → get_or r (recent_at + c) 0 ≡ cond two (get_or sets c 0) 0
  pub rest : (c : ℕ) → end ≤ c → (c < recent_at) ⊎ (recent_at + end ≤ c) → get_or r c 0 ≡ get_or sets c 0

-- the cells outside the two rows of server b stay
pub record SameOthers (sets r : List ℕ) (b : ℕ) : Type 0 where
  pub size : length r ≡ length sets
  pub rest : (c : ℕ) → Outside (of_server b) c → Outside (recent_at + of_server b) c → get_or r c 0 ≡ get_or sets c 0
