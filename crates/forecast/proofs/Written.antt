-- The receipts of all writes, from the table of the ticks in which they begin. It stands on Reached.
use mathlib.Core.Path.{◌≡◌, ap, ◌∙◌}
use mathlib.Core.List.{List}
use Prim.Native.Nat.{ℕ, ◌+◌, ◌-◌, ◌<◌}
use native.Mathlib.Numerals.{add-one}
use native.Mathlib.Omega.{arith}
use lib.ListN.{length, get_or}
use Rattle.register.specs.Plan.{Write}
use Rattle.traffic.specs.Traffic.{sum}
use Rattle.traffic.proofs.Sums.{sum_cong}
use Rattle.plan.specs.{Header.header_of, Packed.plan_of, Playable.Playable}
use Rattle.plan.proofs.AcceptWrites.{write_ends}
use Rattle.tables.specs.declared.Links.{Links}
use Rattle.tables.specs.Operations.{no_write}
use Rattle.tables.specs.Rules.{LinksOf}
use Rattle.regular.specs.Tables.{Tables}
use Rattle.forecast.specs.Steps.{InForce, receipts_by, all_receipts}
use Rattle.forecast.proofs.Reached.{receipts_are}

module _ (w : ℕ) (s : List ℕ) (A : Playable w s) (values begun : List ℕ) (m : ℕ) (B : Tables w (plan_of w s) values begun m) where
  -- the table has the ticks in which the writes begin
  begun_is : (j : ℕ) → j < length (plan_of w s).writes → (get_or (plan_of w s).writes j no_write).begun ≡ get_or begun (j + 1) 0
  begun_is j l = rw (add-one j) (ap (λ (x : Write). x.begun) (B.written.each j l))

  pub writes_counted : m - 1 ≡ length (plan_of w s).writes
  writes_counted = omega (arith, B.written.count)

  pub begun_ends : (j : ℕ) → j < m - 1 → get_or begun (j + 1) 0 + (header_of w s).delta < (header_of w s).ticks
  begun_ends j l = let k : j < length (plan_of w s).writes = omega (arith, writes_counted) in rw (begun_is j k) at (write_ends w s A no_write j k)

  pub all_receipts_lem : (links : Links) → LinksOf w (header_of w s) links → (n : ℕ) → n ≡ (header_of w s).n → (placements : List ℕ)
      → InForce w s (header_of w s) (header_of w s).ticks placements → sum (λ j. receipts_by s links n placements (get_or begun (j + 1) 0)) (m - 1) ≡ all_receipts (plan_of w s)
  unfolding all_receipts
  all_receipts_lem links L n servers placements F =
      sum_cong _ _ (m - 1) (λ j l.
      let k : j < length (plan_of w s).writes = omega (arith, writes_counted) in
      rw (begun_is j k) (receipts_are w s A links L n servers (get_or begun (j + 1) 0) (begun_ends j l) placements F))
      ∙ ap (sum _) writes_counted
