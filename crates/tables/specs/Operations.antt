-- The operations of a plan as the code keeps them: the writes by number in two tables, the reads in order in two more.
use Rattle.std.specs.Prelude.{◌≡◌, List, ℕ, suc, ◌+◌, ◌*◌, ◌^◌, ◌≤◌, ◌<◌, length, get_or}
use Rattle.register.specs.Lists.{tab}
use Rattle.register.specs.Plan.{Write, Read, stamped}
use Rattle.plan.specs.Form.{most_width}
use Rattle.plan.specs.Header.{operation_bits}
use Rattle.plan.specs.Parts.{Operation, operation_in, writes_from}

-- operation i of those from bit `at` on, with values of w bits
abbrev pub op_at : ℕ → List ℕ → ℕ → ℕ → Operation
op_at w s at i = operation_in w s (at + operation_bits w * i)

-- so many operations stand there, and no more writes among them than the tables hold
pub record Room (w : ℕ) (s : List ℕ) (at count : ℕ) : Type 0 where
  pub narrow : w ≤ most_width
  pub inside : at + operation_bits w * count ≤ 8 * length s
  pub start : at < 4096
  pub few : count ≤ 255
  pub writes : length (writes_from w 1 (tab count (op_at w s at))) ≤ 64

abbrev pub no_write : Write
no_write = record { begun = 0; pair = 0 }

abbrev pub no_read : Read
no_read = record { begun = 0; reader = 0 }

-- the tables have the initial value at 0 and the writes from 1 on
pub record Written (w : ℕ) (ws : List Write) (initial : ℕ) (values begun : List ℕ) (m : ℕ) : Type 0 where
  pub count : m ≡ suc (length ws)
  pub few : m ≤ 65
  pub first : get_or values 0 0 ≡ initial
  pub small : (j : ℕ) → get_or values j 0 < 2 ^ w
  pub each : (j : ℕ) → j < length ws → get_or ws j no_write ≡ record { begun = get_or begun (suc j) 0; pair = stamped w (get_or values (suc j) 0) (suc j) }

-- the tables have the reads in order
pub record ReadIn (rs : List Read) (begun reader : List ℕ) (m : ℕ) : Type 0 where
  pub count : m ≡ length rs
  pub few : m ≤ 255
  pub each : (i : ℕ) → i < m → get_or rs i no_read ≡ record { begun = get_or begun i 0; reader = get_or reader i 0 }
