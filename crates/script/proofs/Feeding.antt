-- What a tick is fed from a script stands in the plan.
-- It stands on what Check accepts and on the laws of scripts.
use mathlib.Core.Path.{◌≡◌, ap}
use mathlib.Core.List.{List}
use Prim.Native.Nat.{ℕ, ◌+◌, ◌*◌, ◌/◌, ◌≤◌, ◌<◌}
use native.Mathlib.Omega.{arith}
use lib.ListN.{length}
use Rattle.plan.specs.Header.{Header, header_of, placement_bits, placement_at}
use Rattle.plan.specs.Shape.{Ranged}
use Rattle.plan.proofs.Accept.{in_range}
use Rattle.tables.specs.Links.{Linked}
use Rattle.script.specs.declared.Script.{Script}
use Rattle.script.specs.Script.{width_in, Decoded}
use Rattle.tables.proofs.Placing.{table, placement_inside}

module _ (s : List ℕ) (r : Script) (R : Decoded s r) where
  pub range : Ranged (header_of (width_in r) s)
  range = in_range (width_in r) s R.playable

  pub ticks_same : r.shape.ticks ≡ (header_of (width_in r) s).ticks
  ticks_same = ap (λ (h : Header). h.ticks) R.scripted.header

  pub period_same : r.shape.period ≡ (header_of (width_in r) s).period
  period_same = ap (λ (h : Header). h.period) R.scripted.header

  -- the delays of the tick
  pub linked_there : (t : ℕ) → t < r.shape.ticks → Linked s r.links r.links.n (t + 1)
  linked_there t l = table (width_in r) s R.playable r.links R.scripted.links R.scripted.narrow (t + 1) (omega (arith, ticks_same))

  pub movement_there : (t : ℕ) → t < r.shape.ticks → (0 < r.shape.period) × (placement_at (width_in r) (t / r.shape.period) + placement_bits ≤ 8 * length s)
  movement_there t l = (
    omega (arith, range.delta_lo, range.period_lo, period_same),
    rw period_same (placement_inside (width_in r) s R.playable t (omega (arith, ticks_same))),
  )

  pub few_ticks : (t : ℕ) → t < r.shape.ticks → t < 128
  few_ticks t l = omega (arith, ticks_same, range.ticks_hi)
