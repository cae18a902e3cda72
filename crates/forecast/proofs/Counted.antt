-- What the code returns are the counts of the run: each number by the law of its own.
-- It stands on what Check accepts, and on the laws of what is sent and what arrives.
use mathlib.Core.Path.{◌≡◌, refl, ◌∙◌}
use mathlib.Core.Bool.{Bool, true, false, not, cond}
use mathlib.Core.List.{List, [], ◌∷◌, map}
use Prim.Native.Nat.{ℕ, suc, ◌+◌, ◌*◌, ◌-◌, ◌<◌}
use native.Mathlib.Omega.{arith}
use lib.Dec.{eqb}
use lib.ListN.{length, get_or}
use Rattle.register.specs.{Lists.filter, Plan.Write, Plan.Read, Plan.stamped}
use Rattle.register.proofs.Lists.{length_tab_from}
use Rattle.traffic.specs.Traffic.{largest, forgeries_in}
use Rattle.traffic.proofs.{Moves.moves_counted, Sent.writes_sent_lem, Sent.reads_sent_lem, Votes.votes_sent_lem}
use Rattle.plan.specs.Header.{header_of, moves}
use Rattle.plan.specs.Parts.{Operation, operation_of, operations_of, writes_from, reads_from}
use Rattle.plan.specs.{Packed.plan_of, Playable.Playable}
use Rattle.plan.proofs as plan-laws
use Rattle.answers.specs.Answers.{answer_size}
use Rattle.tables.specs.Operations.{no_write, no_read}
use Rattle.results.proofs.AnswerBytes.{answers_of_length}
use Rattle.forecast.specs.{Forecast.counts_of, Steps.all_receipts}

-- an operation is a write or a read
both_kinds : (w k : ℕ) (os : List Operation) → length (writes_from w k os) + length (reads_from os) ≡ length os
unfolding writes_from reads_from filter
both_kinds w k [] = refl
both_kinds w k (o ∷ os) = go (eqb o.party 0) (both_kinds w (k + 1) os) (both_kinds w k os)
  where
    go : (b : Bool) → length (writes_from w (k + 1) os) + length (reads_from os) ≡ length os → length (writes_from w k os) + length (reads_from os) ≡ length os
        → length {A = Write} (cond b (record { begun = o.at; pair = stamped w o.value k } ∷ writes_from w (k + 1) os) (writes_from w k os))
        + length {A = Read} (map (λ (p : Operation). record { begun = p.at; reader = p.party }) (cond (not b) (o ∷ filter (λ p. not (eqb p.party 0)) os) (filter (λ p. not (eqb p.party 0)) os)))
        ≡ suc (length os)
    go true e f = omega (arith, e)
    go false e f = omega (arith, f)

module _ (w : ℕ) (s : List ℕ) (A : Playable w s) where
  pub operations_are : length (plan_of w s).writes + length (plan_of w s).reads ≡ (header_of w s).operations
  unfolding plan_of operations_of
  operations_are = both_kinds w 1 (operations_of w s (header_of w s)) ∙ length_tab_from 0 (header_of w s).operations (operation_of w s (header_of w s))

  write-below : (j : ℕ) → j < length (plan_of w s).writes → (get_or (plan_of w s).writes j no_write).begun < (header_of w s).ticks
  write-below j l = omega (arith, plan-laws.AcceptWrites.write_ends w s A no_write j l)

  read_below : (j : ℕ) → j < length (plan_of w s).reads → (get_or (plan_of w s).reads j no_read).begun < (header_of w s).ticks
  read_below j l = omega (arith, (plan-laws.AcceptReads.read_stands w s A (get_or (plan_of w s).reads j no_read) (plan-laws.Tests.get_d_in (plan_of w s).reads j no_read l)).ends)

  period_pos : 0 < (header_of w s).period
  period_pos = let H = plan-laws.Accept.in_range w s A in omega (arith, H.delta_lo, H.period_lo)

  -- the six numbers, from the plan alone
  pub counts_are : record {
    answer_bytes = answer_size w * length (plan_of w s).reads;
    moves = moves (header_of w s);
    write_messages = (header_of w s).n * length (plan_of w s).writes;
    read_messages = (header_of w s).n * length (plan_of w s).reads;
    votes = ((header_of w s).n - 1) * all_receipts (plan_of w s);
    most_forgeries = largest (forgeries_in (plan_of w s)) (header_of w s).ticks;
  } ≡ counts_of w s
  unfolding counts_of moves all_receipts plan_of
  counts_are =
      let H = (header_of w s).ticks in
      rw (
        answers_of_length w s,
        moves_counted (plan_of w s) H period_pos,
        writes_sent_lem (plan_of w s) H no_write write-below,
        reads_sent_lem (plan_of w s) H no_read read_below,
        votes_sent_lem (plan_of w s) no_write (plan-laws.AcceptGood.good w s A) H (plan-laws.AcceptWrites.write_ends w s A no_write),
      )

  -- the numbers as the code finds them
  pub found : (m size moved n written others receipts forged : ℕ) → m ≡ length (plan_of w s).reads → size ≡ answer_size w → moved ≡ moves (header_of w s) → n ≡ (header_of w s).n
      → written ≡ (header_of w s).operations - length (plan_of w s).reads → others ≡ (header_of w s).n - 1 → receipts ≡ all_receipts (plan_of w s)
      → forged ≡ largest (forgeries_in (plan_of w s)) (header_of w s).ticks
      → record {
        answer_bytes = size * m;
        moves = moved;
        write_messages = n * written;
        read_messages = n * m;
        votes = others * receipts;
        most_forgeries = forged;
      } ≡ counts_of w s
  found m size moved n written others receipts forged e₁ e₂ e₃ e₄ e₅ e₆ e₇ e₈ =
      let writes : (header_of w s).operations - length (plan_of w s).reads ≡ length (plan_of w s).writes = omega (arith, operations_are) in
      rw (e₁, e₂, e₃, e₄, e₅ ∙ writes, e₆, e₇, e₈) counts_are
