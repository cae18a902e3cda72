-- The forged messages of a plan, one by one.
use Rattle.std.specs.Prelude.{List, ℕ, ◌+◌, ◌*◌, ◌≤◌, ◌<◌, length}
use Rattle.register.specs.Plan.{Forgery}
use Rattle.plan.specs.Form.{most_width}
use Rattle.plan.specs.Header.{header_of, forgery_bits}
use Rattle.plan.specs.Parts.{forgery_in, forgery_of}
use Rattle.plan.specs.Packed.{plan_of}
use Rattle.tables.specs.declared.Links.{Links}
use Rattle.tables.specs.Links.{link_delay, Reach}

-- how many there may be
abbrev pub most_entries : ℕ
most_entries = 1024

-- forged message e of those from bit `at` on, with values of w bits
abbrev pub forged_at : ℕ → List ℕ → ℕ → ℕ → Forgery
forged_at w s at e = forgery_in w s (at + forgery_bits w * e)

-- how long a forged message takes
abbrev pub forged_delay : List ℕ → Links → Forgery → ℕ
forged_delay plan links g = link_delay plan links g.at g.from g.to

-- so many forged messages stand there, and their delays lie in the plan
pub record Legible (w : ℕ) (part : List ℕ) (offset count : ℕ) (plan : List ℕ) (links : Links) (n : ℕ) : Type 0 where
  pub narrow : w ≤ most_width
  pub start : offset < 8
  pub few : count ≤ most_entries
  pub inside : offset + forgery_bits w * count ≤ 8 * length part
  pub reach : (e : ℕ) → e < count → let g : Forgery = forged_at w part offset e in Reach plan links n g.at g.from g.to

-- the forged message e of a plan; how long it takes
abbrev pub message_of : ℕ → List ℕ → ℕ → Forgery
message_of w s e = forgery_of w s (header_of w s) e

abbrev pub message_delay : ℕ → List ℕ → ℕ → ℕ
message_delay w s e = (plan_of w s).delay (message_of w s e).at (message_of w s e).from (message_of w s e).to
