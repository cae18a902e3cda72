-- The writes of a plan as the code has them.
use Rattle.std.specs.Prelude.{◌≡◌, List, ℕ}
use Rattle.plan.specs.Packed.{plan_of}
use Rattle.regular.specs.Tables.{Tables}
use Rattle.regular.specs.declared.Times.{Times}

pub record Timed (w : ℕ) (s : List ℕ) (r : Times) : Type 0 where
  pub tables : Tables w (plan_of w s) r.writes.known.values r.writes.begun r.writes.known.m
  pub delta_is : (plan_of w s).delta ≡ r.delta
