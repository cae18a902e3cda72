-- What a run of the step rules sends, and what arrives in it, counted in each tick (document 02, 'Seven').
use Rattle.std.specs.Prelude.{not, List, ℕ, zero, suc, ◌+◌, ◌*◌, max, eqb, length}
use Rattle.register.specs.Lists.{count, filter}
use Rattle.register.specs.Plan.{Plan, Write, Read, Forgery}
use Rattle.register.specs.Server.{Out, stage1}
use Rattle.register.specs.Cluster.{Cluster, writes_in, reads_in, votes_in, server_of, cluster}

-- g 0 + .. + g (n - 1)
unfoldable pub sum : (ℕ → ℕ) → ℕ → ℕ
sum g zero = 0
sum g (suc n) = sum g n + g n

-- the largest of g 0 .. g (n - 1), 0 where there is none
unfoldable pub largest : (ℕ → ℕ) → ℕ → ℕ
largest g zero = 0
largest g (suc n) = max (largest g n) (g n)

module _ (P : Plan) (t : ℕ) where
  -- 'a write begun at w sends WRITE to all boxes'
  unfoldable pub writes_sent : ℕ
  writes_sent = P.n * length (filter (λ (w : Write). eqb w.begun t) P.writes)

  -- 'a read begun at r sends READ', to all servers too
  unfoldable pub reads_sent : ℕ
  reads_sent = P.n * length (filter (λ (r : Read). eqb r.begun t) P.reads)

  -- stage 1 of server b: what it is then, and what it sends in it
  unfoldable pub delivered : ℕ → Out
  delivered b = let c : Cluster = cluster P t in stage1 P (server_of c b) (writes_in P t b) (votes_in P t c.log b) (reads_in P t b)

  -- 'takes in each pair of a WRITE and sends a vote for it to every other box'; 'A WRITE to a held box brings no vote; one to a curing box does.'
  unfoldable pub votes_by : ℕ → ℕ
  votes_by b = count (λ j. not (eqb j b)) P.n * length (delivered b).sent.votes

  unfoldable pub votes_sent : ℕ
  votes_sent = sum votes_by P.n

  -- the forged messages that arrive: 'A forgery arrives even where its receiver is held or its read has ended.'
  unfoldable pub forged_arriving : List Forgery
  forged_arriving = filter (λ (g : Forgery). eqb (g.at + P.delay g.at g.from g.to) t) P.forged

  abbrev pub forgeries_in : ℕ
  forgeries_in = length forged_arriving
