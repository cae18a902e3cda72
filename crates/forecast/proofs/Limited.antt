-- How large the numbers of a forecast can be. It stands on Counted, and on how many reads, writes and forged messages a plan has.
use mathlib.Core.List.{List}
use Prim.Native.Nat.{ℕ, ◌*◌, ◌≤◌}
use native.Mathlib.Nat.{mul-le-mul, mul-le-mul_left}
use native.Mathlib.Omega.{arith}
use lib.ListN.{length, get_or}
use Rattle.register.specs.Plan.{Plan}
use Rattle.register.proofs.Counting.{count_le}
use Rattle.traffic.specs.{Traffic.forgeries_in, Alone.receipts_of}
use Rattle.traffic.proofs.Sums.{sum_le, largest_le}
use Rattle.plan.specs.{Header.header_of, Header.moves, Packed.plan_of, Playable.Playable, Shape.Ranged, Limits.most_reads}
use Rattle.plan.proofs as plan-laws
use Rattle.answers.specs.Answers.{answer_size}
use Rattle.tables.specs.Operations.{no_write}
use Rattle.forecast.specs.{Forecast.counts_of, Steps.most_ticks, Steps.all_receipts, Steps.most_receipts}
use Rattle.forecast.proofs.Arriving.{arriving}
use Rattle.forecast.proofs.Counted.{counts_are}

receipts_le : (P : Plan) (u : ℕ) → receipts_of P u ≤ P.n
unfolding receipts_of
receipts_le P u = count_le _ P.n

module _ (w : ℕ) (s : List ℕ) (A : Playable w s) where
  ranged : Ranged (header_of w s)
  ranged = plan-laws.Accept.in_range w s A

  few_moves : moves (header_of w s) ≤ most_ticks
  unfolding moves
  few_moves = omega (arith, plan-laws.Laws.moves_few (header_of w s).ticks (header_of w s).period (omega (arith, ranged)), ranged)

  few-receipts : all_receipts (plan_of w s) ≤ most_receipts
  unfolding all_receipts plan_of
  few-receipts =
      let P = plan_of w s in
      let each = sum_le (λ j. receipts_of P (get_or P.writes j no_write).begun) 16 (length P.writes)
      (λ j l. omega (arith, receipts_le P (get_or P.writes j no_write).begun, ranged.n_hi)) in
      omega (arith, each, plan-laws.AcceptWrites.few_writes w s A)

  few-arriving : (t : ℕ) → forgeries_in (plan_of w s) t ≤ (header_of w s).forgeries
  few-arriving t = rw (arriving w s t) (count_le _ (header_of w s).forgeries)

  -- at most 168 answers, 128 movements, 1,024 WRITEs, 2,688 READs, 15,360 votes and 1,024 forged messages
  pub counts_limited : ((counts_of w s).answer_bytes ≤ answer_size w * most_reads) × ((counts_of w s).moves ≤ 128) × ((counts_of w s).write_messages ≤ 1024)
      × ((counts_of w s).read_messages ≤ 2688) × ((counts_of w s).votes ≤ 15360) × ((counts_of w s).most_forgeries ≤ 1024)
  counts_limited =
      rw (← counts_are w s A) (
        mul-le-mul_left {n = most_reads} (answer_size w) (plan-laws.Longest.reads_limited w s A),
        few_moves,
        mul-le-mul {n₂ = 16} {m₂ = 64} ranged.n_hi (plan-laws.AcceptWrites.few_writes w s A),
        mul-le-mul {n₂ = 16} {m₂ = most_reads} ranged.n_hi (plan-laws.Longest.reads_limited w s A),
        mul-le-mul {n₂ = 15} {m₂ = most_receipts} (omega (arith, ranged)) few-receipts,
        largest_le _ 1024 (header_of w s).ticks (λ t l. omega (arith, few-arriving t, ranged.forgeries_hi)),
      )
