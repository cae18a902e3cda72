-- The WRITEs and the READs that are sent: n for each write and for each read; and as many arrive by the step rules, where all operations end in time.
-- It stands on Sums.
use mathlib.Core.Path.{◌≡◌, sym, ap, ◌∙◌}
use Prim.Native.Nat.{ℕ, ◌+◌, ◌*◌, ◌<◌}
use native.Mathlib.Omega.{arith}
use lib.Dec.{eqb}
use lib.ListN.{length, get_or, length-map}
use Rattle.register.specs.Lists.{filter}
use Rattle.register.specs.Plan.{Plan, Write, Read}
use Rattle.register.specs.Cluster.{writes_in, reads_in}
use Rattle.register.proofs.Good.{Good}
use Rattle.traffic.specs.Traffic.{sum, writes_sent, reads_sent}
use Rattle.traffic.specs.Alone.{reached_in}
use Rattle.traffic.proofs.Sums.{sum_cong, sum_times, sum_swap, sum_same, each_once}

module _ (P : Plan) (H : ℕ) where
  pub writes_sent_lem : (d : Write) → ((j : ℕ) → j < length P.writes → (get_or P.writes j d).begun < H) → sum (writes_sent P) H ≡ P.n * length P.writes
  unfolding writes_sent
  writes_sent_lem d below = sum_times _ P.n H ∙ ap (λ m. P.n * m) (each_once (λ (w : Write). w.begun) P.writes d H below)

  pub reads_sent_lem : (d : Read) → ((j : ℕ) → j < length P.reads → (get_or P.reads j d).begun < H) → sum (reads_sent P) H ≡ P.n * length P.reads
  unfolding reads_sent
  reads_sent_lem d below = sum_times _ P.n H ∙ ap (λ m. P.n * m) (each_once (λ (r : Read). r.begun) P.reads d H below)

  -- what is sent arrives, each WRITE and READ once, in the deliveries of the ticks below H
  module _ (G : Good P) where
    pub writes_arrive : (d : Write) → ((j : ℕ) → j < length P.writes → (get_or P.writes j d).begun + P.delta < H)
        → sum (λ t. sum (λ b. length (writes_in P t b)) P.n) H ≡ sum (writes_sent P) H
    unfolding writes_in
    writes_arrive d ends =
        sum_swap (λ t b. length (writes_in P t b)) H P.n
        ∙ sum_cong _ _ P.n (λ b l.
        sum_cong _ _ H (λ t m. length-map (filter (λ w. eqb (reached_in P w.begun b) t) P.writes) (λ (w : Write). w.pair))
        ∙ each_once (λ (w : Write). reached_in P w.begun b) P.writes d H (λ j m. omega (arith, ends j m, G.delay_hi (get_or P.writes j d).begun P.n b)))
        ∙ sum_same (length P.writes) P.n
        ∙ sym (writes_sent_lem d (λ j m. omega (arith, ends j m)))

    pub reads_arrive : (d : Read) → ((j : ℕ) → j < length P.reads → (get_or P.reads j d).begun + P.delta < H)
        → sum (λ t. sum (λ b. length (reads_in P t b)) P.n) H ≡ sum (reads_sent P) H
    unfolding reads_in
    reads_arrive d ends =
        sum_swap (λ t b. length (reads_in P t b)) H P.n
        ∙ sum_cong _ _ P.n (λ b l.
        each_once (λ (r : Read). r.begun + P.delay r.begun (P.n + r.reader) b) P.reads d H
        (λ j m. let r = get_or P.reads j d in omega (arith, ends j m, G.delay_hi r.begun (P.n + r.reader) b)))
        ∙ sum_same (length P.reads) P.n
        ∙ sym (reads_sent_lem d (λ j m. omega (arith, ends j m)))
