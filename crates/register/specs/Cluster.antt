-- All servers together: what arrives at one, one tick, and the cluster after any number of ticks (document 01, 'The hall').
-- 'A message sent at t arrives at t plus the delay of that tick and link.' WRITEs, READs and forgeries are read off the plan; votes and
-- replies off the log of what was sent.
use Rattle.std.specs.Prelude.{not, ◌&&◌, cond, List, [], ◌∷◌, ◌++◌, map, ℕ, zero, suc, ◌+◌, eqb, get_or}
use Rattle.register.specs.Lists.{tab, flat, filter}
use Rattle.register.specs.Plan.{Plan, Write, Read, Forgery}
use Rattle.register.specs.Server.{Server, Claim, claim_of, Sent, nothing, Out, blank, faulty, correct, stage1, stage2, stage3, stage4}

-- The cluster (document 01: the hall). Row u of the log is what each server sent in tick u.
pub record Cluster : Type 0 where
  pub servers : List Server
  pub log : List (List Sent)

abbrev pub Log : Type 0
Log = List (List Sent)

-- what server i sent in tick u
unfoldable pub sent_in : Log → ℕ → ℕ → Sent
sent_in log u i = get_or (get_or log u []) i nothing

-- the pairs of the WRITEs that arrive at server b in tick t
unfoldable pub writes_in : Plan → ℕ → ℕ → List ℕ
writes_in P t b =
    map (λ (w : Write). w.pair) (filter (λ w. eqb (w.begun + P.delay w.begun P.n b) t) P.writes)

-- the READs that arrive at server b in tick t
unfoldable pub reads_in : Plan → ℕ → ℕ → List Read
reads_in P t b = filter (λ r. eqb (r.begun + P.delay r.begun (P.n + r.reader) b) t) P.reads

-- the votes that server i sent in tick u, if they arrive at server b in tick t ('to every other box')
unfoldable pub votes_from : Plan → ℕ → Log → ℕ → ℕ → ℕ → List Claim
votes_from P t log b u i =
    cond (not (eqb i b) && eqb (u + P.delay u i b) t) (map (claim_of i) (sent_in log u i).votes) []

-- 5. 'Forgeries. Held boxes send what the plan lists.' The forged votes that arrive at server b in tick t
unfoldable pub forged_in : Plan → ℕ → ℕ → List Claim
forged_in P t b =
    map (λ (g : Forgery). claim_of g.from g.pair)
    (filter (λ g. eqb g.to b && eqb (g.at + P.delay g.at g.from b) t) P.forged)

-- all votes that arrive at server b in tick t
unfoldable pub votes_in : Plan → ℕ → Log → ℕ → List Claim
votes_in P t log b = flat t (λ u. flat P.n (λ i. votes_from P t log b u i)) ++ forged_in P t b

-- server b in tick t, given what was sent before
unfoldable pub step : Plan → ℕ → ℕ → Log → Server → Out
step P t b log x =
    stage4 P t (stage3 P t b (stage2 P t (stage1 P x (writes_in P t b) (votes_in P t log b) (reads_in P t b))))

-- 'at the start it is sound, with only pair 0'
abbrev pub first : Plan → Server
first P = record { status = correct; kept = P.initial ∷ []; pending = []; fresh = []; old = [] }

-- server b of a cluster; past the last one, a faulty one
unfoldable pub server_of : Cluster → ℕ → Server
server_of c b = get_or c.servers b (blank faulty)

-- 'One tick carries the whole hall from one state to the next'
unfoldable pub tick : Plan → ℕ → Cluster → Cluster
tick P t c =
    let outs : List Out = tab P.n (λ b. step P t b c.log (server_of c b)) in
    record { servers = map (λ (o : Out). o.server) outs; log = c.log ++ (map (λ (o : Out). o.sent) outs ∷ []) }

-- the cluster after the ticks 0 .. t - 1
unfoldable pub cluster : Plan → ℕ → Cluster
cluster P zero = record { servers = tab P.n (λ b. first P); log = [] }
cluster P (suc t) = tick P t (cluster P t)
