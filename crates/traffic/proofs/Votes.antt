-- The votes that are sent on receipt of a WRITE: one to every other server for each receipt by a server that is not faulty then, which the placements
-- tell. It stands on Sums, and on the register's law of who is faulty.
use mathlib.Core.Path.{◌≡◌, sym, ap, ◌∙◌}
use mathlib.Core.Bool.{Bool, true, false, not, ◌&&◌, cond, and-true, and-false}
use mathlib.Core.List.{List, [], map}
use Prim.Native.Nat.{ℕ, suc, ◌+◌, ◌*◌, ◌-◌, ◌/◌, ◌<◌}
use native.Mathlib.Omega.{arith}
use lib.Dec.{eqb}
use lib.ListN.{length, get_or, length-map}
use Rattle.register.specs.Lists.{one_if, count, filter}
use Rattle.register.specs.Plan.{Plan, Write}
use Rattle.register.specs.Server.{is_faulty, Out, deliver, stage1}
use Rattle.register.specs.Cluster.{writes_in, server_of, cluster}
use Rattle.register.proofs.Logic.{cond_ap}
use Rattle.register.proofs.Counting.{count_cong, count_none}
use Rattle.register.proofs.Good.{Good}
use Rattle.register.proofs.Trace.{before_is}
use Rattle.register.proofs.Statuses.{faulty_placed}
use Rattle.traffic.specs.Traffic.{sum, delivered, votes_by, votes_sent}
use Rattle.traffic.specs.Alone.{reached_in, receipts_of}
use Rattle.traffic.proofs.Sums as sums

module _ (P : Plan) where
  -- is server b faulty before tick t
  abbrev faulty_in : ℕ → ℕ → Bool
  faulty_in t b = is_faulty (server_of (cluster P t) b).status

  -- a faulty server sends none, any other one for each WRITE that arrives
  votes-are : (t b : ℕ) → (delivered P t b).sent.votes ≡ cond (faulty_in t b) [] (writes_in P t b)
  unfolding delivered stage1 deliver
  votes-are t b = cond_ap (λ (o : Out). o.sent.votes) (faulty_in t b) _ _

  module _ (d : Write) where
    -- so many of a list, unless there are none
    unless-faulty : (q : Bool) (p : Write → Bool) (ws : List Write)
        → length (cond q [] (map (λ (w : Write). w.pair) (filter p ws))) ≡ count (λ j. p (get_or ws j d) && not q) (length ws)
    unless-faulty true p ws = sym (count_cong _ _ (length ws) (λ j l. and-false (p (get_or ws j d))) ∙ count_none (length ws))
    unless-faulty false p ws =
        length-map (filter p ws) (λ (w : Write). w.pair)
        ∙ sums.length_filter p ws d
        ∙ count_cong _ _ (length ws) (λ j l. sym (and-true (p (get_or ws j d))))

    -- the begin of write j
    abbrev begun : ℕ → ℕ
    begun j = (get_or P.writes j d).begun

    received : (t b : ℕ) → length (delivered P t b).sent.votes ≡ count (λ j. eqb (reached_in P (begun j) b) t && not (faulty_in t b)) (length P.writes)
    unfolding writes_in
    received t b = ap length (votes-are t b) ∙ unless-faulty (faulty_in t b) (λ w. eqb (reached_in P w.begun b) t) P.writes

    module _ (G : Good P) (H : ℕ) (ends : (j : ℕ) → j < length P.writes → begun j + P.delta < H) where
      -- a WRITE arrives after the tick in which it is sent, so in a period, whose placement tells
      at-arrival : (u b : ℕ) → b < P.n → faulty_in (reached_in P u b) b ≡ P.placed ((reached_in P u b - 1) / P.period) b
      at-arrival u b l =
          let e : suc (reached_in P u b - 1) ≡ reached_in P u b = omega (arith, G.delay_lo u P.n b) in
          rw e at (rw (before_is P (suc (reached_in P u b - 1)) b) at (faulty_placed P G (reached_in P u b - 1) b l))

      -- all receipts of server b, by writes
      of-server : (b : ℕ) → b < P.n
          → sum (λ t. length (delivered P t b).sent.votes) H ≡ sum (λ j. one_if (not (P.placed ((reached_in P (begun j) b - 1) / P.period) b))) (length P.writes)
      of-server b l =
          sums.sum_cong _ _ H (λ t m. received t b)
          ∙ sums.count_swap (λ t j. eqb (reached_in P (begun j) b) t && not (faulty_in t b)) H (length P.writes)
          ∙ sums.sum_cong _ _ (length P.writes) (λ j m.
          sums.count_at (λ t. not (faulty_in t b)) (reached_in P (begun j) b) H (omega (arith, ends j m, G.delay_hi (begun j) P.n b))
          ∙ ap (λ q. one_if (not q)) (at-arrival (begun j) b l))

      -- those of all servers
      receipts : sum (λ t. sum (λ b. length (delivered P t b).sent.votes) P.n) H ≡ sum (λ j. receipts_of P (begun j)) (length P.writes)
      unfolding receipts_of
      receipts =
          sums.sum_swap (λ t b. length (delivered P t b).sent.votes) H P.n
          ∙ sums.sum_cong _ _ P.n of-server
          ∙ sums.sum_swap (λ b j. one_if (not (P.placed ((reached_in P (begun j) b - 1) / P.period) b))) P.n (length P.writes)
          ∙ sums.sum_cong _ _ (length P.writes) (λ j l. sym (sums.count_sum _ P.n))

      pub votes_sent_lem : sum (votes_sent P) H ≡ (P.n - 1) * sum (λ j. receipts_of P (begun j)) (length P.writes)
      unfolding votes_sent votes_by
      votes_sent_lem =
          sums.sum_cong _ _ H (λ t l.
          sums.sum_cong _ _ P.n (λ b m. ap (λ k. k * length (delivered P t b).sent.votes) (sums.count_others b P.n m))
          ∙ sums.sum_times _ (P.n - 1) P.n)
          ∙ sums.sum_times _ (P.n - 1) H
          ∙ ap (λ m. (P.n - 1) * m) receipts
