-- What the laws find from the plan alone, with no run.
use Rattle.std.specs.Prelude.{not, ℕ, ◌+◌, ◌-◌, ◌/◌}
use Rattle.register.specs.Lists.{count}
use Rattle.register.specs.Plan.{Plan}

-- the tick in which the WRITE of a write begun in tick u reaches server b
abbrev pub reached_in : Plan → ℕ → ℕ → ℕ
reached_in P u b = u + P.delay u P.n b

-- how many servers are not faulty when it reaches them: the placement of the tick before decides, since deliveries come before the movement
unfoldable pub receipts_of : Plan → ℕ → ℕ
receipts_of P u = count (λ b. not (P.placed ((reached_in P u b - 1) / P.period) b)) P.n
