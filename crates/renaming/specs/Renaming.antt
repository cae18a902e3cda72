-- A strictly rising renaming of the pairs, and what the step rules are about with every pair renamed.
use Rattle.std.specs.Prelude.{◌≡◌, map, ℕ, ◌<◌}
use Rattle.register.specs.Plan.{Write, Forgery, Plan}
use Rattle.register.specs.Server.{Claim, Server, Sent, Out}
use Rattle.register.specs.Cluster.{Cluster}
use Rattle.register.specs.Reading.{Answer}

-- a higher pair gets a higher name
abbrev pub Rising : (ℕ → ℕ) → Type 0
Rising φ = (i j : ℕ) → i < j → φ i < φ j

module _ (φ : ℕ → ℕ) where
  -- the same write, of the renamed pair
  abbrev pub renamed_write : Write → Write
  renamed_write w = record { begun = w.begun; pair = φ w.pair }

  -- the same forged message, of the renamed pair
  abbrev pub renamed_forgery : Forgery → Forgery
  renamed_forgery g = record { at = g.at; from = g.from; to = g.to; pair = φ g.pair }

  -- the same claim, of the renamed pair
  abbrev pub renamed_claim : Claim → Claim
  renamed_claim c = record { pair = φ c.pair; from = c.from }

  -- the same server, with its pairs and the pairs of its votes renamed
  abbrev pub renamed_server : Server → Server
  renamed_server x = record {
    status = x.status;
    kept = map φ x.kept;
    pending = x.pending;
    fresh = map renamed_claim x.fresh;
    old = map renamed_claim x.old;
  }

  -- the same votes and replies, of the renamed pairs
  abbrev pub renamed_sent : Sent → Sent
  renamed_sent s = record { votes = map φ s.votes; reply_to = s.reply_to; reply_with = map φ s.reply_with }

  -- a server and what it sends, renamed
  abbrev pub renamed_out : Out → Out
  renamed_out o = record { server = renamed_server o.server; sent = renamed_sent o.sent }

  -- every server and every row of the log renamed
  abbrev pub renamed_cluster : Cluster → Cluster
  renamed_cluster c = record { servers = map renamed_server c.servers; log = map (map renamed_sent) c.log }

  -- the renamed pair, with the same count
  abbrev pub renamed_answer : Answer → Answer
  renamed_answer a = record { pair = φ a.pair; count = a.count }

  -- the plan with every pair renamed
  abbrev pub renamed_plan : Plan → Plan
  renamed_plan P = record {
    n = P.n;
    f = P.f;
    delta = P.delta;
    period = P.period;
    depth = P.depth;
    initial = φ P.initial;
    placed = P.placed;
    writes = map renamed_write P.writes;
    reads = P.reads;
    forged = map renamed_forgery P.forged;
    delay = P.delay;
  }

-- Q is P with every pair renamed
pub record Renamed (φ : ℕ → ℕ) (P Q : Plan) : Type 0 where
  pub n : Q.n ≡ P.n
  pub f : Q.f ≡ P.f
  pub delta : Q.delta ≡ P.delta
  pub period : Q.period ≡ P.period
  pub depth : Q.depth ≡ P.depth
  pub initial : Q.initial ≡ φ P.initial
  pub placed : (i b : ℕ) → Q.placed i b ≡ P.placed i b
  pub writes : Q.writes ≡ map (renamed_write φ) P.writes
  pub reads : Q.reads ≡ P.reads
  pub forged : Q.forged ≡ map (renamed_forgery φ) P.forged
  pub delay : (t i j : ℕ) → Q.delay t i j ≡ P.delay t i j
