-- What the stages 1 to 4 of a tick do, said of what they are fed: the readers note what arrives, the servers go through their stages, and what they send
-- is under way.
use Rattle.std.specs.Prelude.{◌≡◌, Bool, not, ◌&&◌, ◌||◌, cond, List, [], ◌∷◌, ℕ, ◌+◌, ◌/◌, ◌%◌, ◌<◌, ◌≤◌, eqb, leb, ltb, length, get_or, Option}
use Rattle.std.specs.Option.{is_some}
use Rattle.register.specs.Lists.{member}
use Rattle.register.specs.Server.{correct, is_correct, cured_at}
use Rattle.limits.specs.Bits.{bit}
use Rattle.limits.specs.Limits.{most_servers, most_readers, places}
use Rattle.calendar.specs.Layout.{slots, receivers, rows, row_of, sender}
use Rattle.calendar.specs.View.{SamePast, Spanned, Posted}
use Rattle.serving.specs.declared.Server.{Server}
use Rattle.tables.specs.declared.{Rules.Rules, Links.Links}
use Rattle.sending.specs.declared.Sender.{Sender}
use Rattle.serving.specs.declared.Turn.{Turn}
use Rattle.cluster.specs.declared.{Cluster.Cluster, Arrivals.Arrivals, Feed.Feed}
use Rattle.tallies.specs.Tallies.{named_at, of_reader, holds, SameOthers, no_votes}
use Rattle.serving.specs.Stored.{Plain, Both, server, status_of, absent}
use Rattle.sending.specs.Sends.{Said, sends, sends_vote, sends_reply}
use Rattle.stores.specs.Stores.{keys, Valued}
use Rattle.serving.specs.Stages.{nobody, cure_ended, moved_on, stage_one, stages_of}
use Rattle.serving.specs.Settled.{Settled}
use Rattle.cluster.specs.Inputs.{wrote_at, asks_at, is_seized}

-- server b of an array
abbrev pub server_at : ℕ → List ℕ → List Server → ℕ → Plain
server_at m sets c b = server m sets b (get_or c b absent)

-- ---- the readers

-- all readers have noted what arrives in tick t, and their rows of the calendar are empty now; the other rows are as they were
pub record Heard (work after sets then : List ℕ) (t : ℕ) : Type 0 where
  pub size : length then ≡ length sets
  pub named : (x j i : ℕ) → x < most_readers → j < places → holds then (of_reader x + j) i ≡ (holds sets (of_reader x + j) i || sender work (row_of t (most_servers + x)) j i)
  pub votes : (c : ℕ) → c < named_at → get_or then c 0 ≡ get_or sets c 0
  pub rest : SamePast work after
  pub spans : Spanned after
  pub cells : (x j i : ℕ) → x < rows → j < places → sender after x j i ≡ (not (eqb (x / receivers) (t % slots) && leb most_servers (x % receivers)) && sender work x j i)

-- ---- the stages of the servers

-- what reaches server b
pub record TurnOf (feed : Feed) (b : ℕ) (r : Turn) : Type 0 where
  pub turn : r ≡ record {
    server = b;
    row = row_of feed.t b;
    wrote = wrote_at feed.arrivals.requests feed.arrivals.number b;
    asks = r.asks;
    live = feed.arrivals.live;
    m = feed.m;
    rules = feed.rules;
  }
  pub asks : (λ x. bit x r.asks) ≡ asks_at feed.arrivals.requests b

-- a server has what reaches it, and what it sends then is under way
pub record Reached (plan ends values : List ℕ) (turn : Turn) (from : Sender) (s r : Server) (sets then work after : List ℕ) : Type 0 where
  -- stage 1 of it
  pub out : Both
  pub first : out ≡ stage_one turn.m turn.rules.echo turn.rules.reply turn.wrote (sender work turn.row) (λ x. bit x turn.asks) (λ x. bit x turn.live)
      (server turn.m sets turn.server s)
  pub stage : server turn.m then turn.server r ≡ out.server
  pub others : SameOthers sets then turn.server
  pub valued : Valued values s.kept → Valued values r.kept
  pub posted : Posted work after (λ x j k. eqb k from.i && sends plan from ends out.said x j)

-- server b as one that sends in tick t
abbrev pub sender_at : Links → ℕ → ℕ → Sender
sender_at links t b = record { links = links; t = t; i = b }

-- the pairs of the first n servers have the values of their numbers, if they had them before
abbrev pub Values : ℕ → List ℕ → List Server → List Server → Type 0
Values n values c r = ((b : ℕ) → b < n → Valued values (get_or c b absent).kept) → (b : ℕ) → b < n → Valued values (get_or r b absent).kept

-- the rows of the readers stay
abbrev pub SameNamed : List ℕ → List ℕ → Type 0
SameNamed sets then = (c : ℕ) → named_at ≤ c → get_or then c 0 ≡ get_or sets c 0

-- cures have ended
pub record Cured (rules : Rules) (m t : ℕ) (c r : List Server) : Type 0 where
  pub servers : length r ≡ length c
  pub each : (b : ℕ) → b < rules.n → (sets : List ℕ) → server_at m sets r b ≡ cure_ended rules.delta t (server_at m sets c b)
  pub kept : (b : ℕ) → (get_or r b absent).kept ≡ (get_or c b absent).kept

-- what the servers send whose cure ends
abbrev pub cure_replies : List ℕ → Links → Rules → ℕ → List ℕ → List Server → ℕ → ℕ → ℕ → Bool
cure_replies plan links rules t ends c x j i =
    ltb i rules.n
    && (cured_at rules.delta t (status_of (get_or c i absent).status)
    && sends_reply plan (sender_at links t i) ends (λ y. bit y (get_or c i absent).pending) (λ y. member y (keys (get_or c i absent).kept)) x j)

-- the placement of the tick stands, if it is a movement
pub record Moved (rules : Rules) (m t : ℕ) (movement : Option ℕ) (c r : List Server) (sets then : List ℕ) : Type 0 where
  pub size : length then ≡ length sets
  pub servers : length r ≡ length c
  pub each : (b : ℕ) → b < rules.n
      → server_at m then r b ≡ cond (is_some movement) (moved_on rules.two (is_seized movement b) t (server_at m sets c b)) (server_at m sets c b)
  pub named : SameNamed sets then
  pub valued : (values : List ℕ) → Values rules.n values c r

-- what the servers echo
abbrev pub echoes : List ℕ → Links → Rules → ℕ → Option ℕ → List Server → ℕ → ℕ → ℕ → Bool
echoes plan links rules t movement c x j i =
    ltb i rules.n
    && (is_some movement
    && (is_correct (status_of (get_or c i absent).status) && sends_vote plan (sender_at links t i) (λ y. member y (keys (get_or c i absent).kept)) x j))

-- ---- what a tick is fed

pub record Fed : Type 0 where
  pub plan : List ℕ
  pub work : List ℕ
  pub t : ℕ
  pub rules : Rules
  pub m : ℕ
  pub links : Links
  pub arrivals : Arrivals
  pub movement : Option ℕ

-- the code's struct with the plan and the workspace
abbrev pub feed_of : List ℕ → List ℕ → Feed → Fed
feed_of plan work f = record {
  plan = plan;
  work = work;
  t = f.t;
  rules = f.rules;
  m = f.m;
  links = f.links;
  arrivals = f.arrivals;
  movement = f.movement;
}

module _ (F : Fed) where
  -- the votes that arrive at server b
  abbrev pub got : ℕ → ℕ → ℕ → Bool
  got b j i = sender F.work (row_of F.t b) j i

  -- stage 1 of server b, and all its stages
  abbrev pub first_of : ℕ → Plain → Both
  first_of b s = stage_one F.m F.rules.echo F.rules.reply (wrote_at F.arrivals.requests F.arrivals.number b) (got b) (asks_at F.arrivals.requests b)
      (λ x. bit x F.arrivals.live) s

  abbrev pub all_of : ℕ → Plain → Both
  all_of b s = stages_of F.m F.rules (wrote_at F.arrivals.requests F.arrivals.number b) (got b) (asks_at F.arrivals.requests b)
      (λ x. bit x F.arrivals.live) (is_some F.movement) (is_seized F.movement b) F.t s

  -- what server b sends that said this
  abbrev pub sent_by : List ℕ → ℕ → Said → ℕ → ℕ → Bool
  sent_by ends b said x j = sends F.plan (sender_at F.links F.t b) ends said x j

  -- all servers have taken in every pair with a quorum
  abbrev pub Calm : List ℕ → List Server → Type 0
  Calm sets c = (b : ℕ) → b < F.rules.n → Settled F.m F.rules.echo F.rules.reply (server_at F.m sets c b)

  -- the first n servers have what arrives: their rows of the calendar are empty now, and what they send then is under way
  pub record Delivered (ends values : List ℕ) (c r : List Server) (sets then work : List ℕ) (n : ℕ) : Type 0 where
    pub rest : SamePast F.work work
    pub spans : Spanned work
    pub size : length then ≡ length sets
    pub servers : length r ≡ length c
    pub each : (b : ℕ) → b < n → server_at F.m then r b ≡ (first_of b (server_at F.m sets c b)).server
    pub named : SameNamed sets then
    pub valued : Values F.rules.n values c r
    pub cells : (x j i : ℕ) → x < rows → j < places
        → sender work x j i ≡ ((not (eqb (x / receivers) (F.t % slots) && ltb (x % receivers) n) && sender F.work x j i)
        || (ltb i n && sent_by ends i (first_of i (server_at F.m sets c i)).said x j))

  -- ---- the whole tick

  -- the rows of the present tick: of the first n servers, and of the readers
  unfoldable pub present : ℕ → ℕ → Bool
  present n x = eqb (x / receivers) (F.t % slots) && (ltb (x % receivers) n || leb most_servers (x % receivers))

  -- the first n servers and all readers have done the tick: what arrived is taken, and what each server sent is under way
  pub record Ticked (ends : List ℕ) (c r : List Server) (sets then work : List ℕ) (n : ℕ) : Type 0 where
    pub rest : SamePast F.work work
    pub spans : Spanned work
    pub size : length then ≡ length sets
    pub servers : length r ≡ length c
    pub each : (b : ℕ) → b < n → server_at F.m then r b ≡ (all_of b (server_at F.m sets c b)).server
    pub named : (x j i : ℕ) → x < most_readers → j < places → holds then (of_reader x + j) i ≡ (holds sets (of_reader x + j) i || sender F.work (row_of F.t (most_servers + x)) j i)
    pub cells : (x j i : ℕ) → x < rows → j < places
        → sender work x j i ≡ ((not (present n x) && sender F.work x j i) || (ltb i n && sent_by ends i (all_of i (server_at F.m sets c i)).said x j))

-- ---- the start

abbrev pub first_server : Plain
first_server = record { status = correct; kept = 0 ∷ []; pending = nobody; fresh = no_votes; recent = no_votes }

-- every server is correct and has only pair 0, of this value; no read is open
pub record Started (value : ℕ) (c : Cluster) : Type 0 where
  pub size : length c.servers ≡ most_servers
  pub each : (b m : ℕ) (sets : List ℕ) → b < most_servers → ((k : ℕ) → get_or sets k 0 ≡ 0) → server_at m sets c.servers b ≡ first_server
  pub valued : (values : List ℕ) → get_or values 0 0 ≡ value → (b : ℕ) → b < most_servers → Valued values (get_or c.servers b absent).kept
  pub readers : length c.ends ≡ most_readers
  pub idle : (x : ℕ) → x < most_readers → get_or c.ends x 0 ≡ 0
