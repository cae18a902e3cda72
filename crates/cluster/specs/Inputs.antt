-- What a tick of the engine is fed says what the abstract plan says.
use Rattle.std.specs.Prelude.{◌≡◌, Bool, true, false, ◌&&◌, cond, List, ℕ, suc, ◌+◌, ◌-◌, ◌/◌, ◌≤◌, ◌<◌, eqb, ltb, get_or, length, Option, Some, None}
use Rattle.std.specs.Option.{is_some}
use Rattle.register.specs.Lists.{any, any_up_to, In, member}
use Rattle.register.specs.Plan.{Plan, Read, kk, echo_quorum, reply_quorum, is_move, read_end}
use Rattle.register.specs.Cluster.{writes_in, reads_in}
use Rattle.register.specs.Reading.{same_read}
use Rattle.limits.specs.Bits.{bit}
use Rattle.limits.specs.Limits.{most_servers, places, no_pair}
use Rattle.calendar.specs.Layout.{calendar_size}
use Rattle.calendar.specs.View.{Spanned}
use Rattle.tables.specs.declared.Rules.{Rules}
use Rattle.tables.specs.declared.Links.{Links}
use Rattle.cluster.specs.declared.Arrivals.{Arrivals}
use Rattle.tables.specs.Links.{link_delay, Linked}

-- ---- what arrives at one server

-- how many parties send requests: the writer, party 0 here, and the readers
abbrev pub requesters : ℕ
requesters = 5

-- some request reaches server b
unfoldable pub is_asked : List ℕ → ℕ → Bool
is_asked requests b = any_up_to requesters (λ p. bit b (get_or requests p 0))

-- the number of the WRITE that reaches server b, or none
unfoldable pub wrote_at : List ℕ → ℕ → ℕ → ℕ
wrote_at requests number b = cond (bit b (get_or requests 0 0)) number no_pair

-- the readers whose READ reaches server b
unfoldable pub asks_at : List ℕ → ℕ → ℕ → Bool
asks_at requests b x = ltb x requesters && (ltb 0 x && bit b (get_or requests x 0))

-- ---- the movement

-- the placement makes server b faulty; it is there if the tick is a movement
abbrev pub is_seized : Option ℕ → ℕ → Bool
is_seized None b = false
is_seized (Some set) b = bit (most_servers - 1 - b) set

-- ---- what a tick is fed

-- what a tick's code needs of the sizes
pub record Tickable (plan work : List ℕ) (t : ℕ) (rules : Rules) (m : ℕ) (links : Links) : Type 0 where
  pub room : calendar_size ≤ length work
  pub spans : Spanned work
  pub tick : t < 128
  pub servers : rules.n ≤ most_servers
  pub delta : rules.delta ≤ 15
  pub pairs : m ≤ places
  pub echo : 1 ≤ rules.echo
  pub reply : 1 ≤ rules.reply
  pub same : links.n ≡ rules.n
  pub linked : Linked plan links links.n (suc t)
  -- what a server sends to another one or to a reader does not arrive in the same tick
  pub delays : (i q : ℕ) → i < rules.n → q < links.parties → (q ≡ i → ⊥) → (q ≡ rules.n → ⊥) → 1 ≤ link_delay plan links t i q

-- what is handed to tick t is what the plan, whose pairs are g 0, g 1 .., says of it
pub record Fits (P : Plan) (g : ℕ → ℕ) (t : ℕ) (plan : List ℕ) (rules : Rules) (m : ℕ) (links : Links) (arrivals : Arrivals) (movement : Option ℕ) : Type 0 where
  pub n : rules.n ≡ P.n
  pub servers : links.n ≡ P.n
  pub delta : rules.delta ≡ P.delta
  pub two : rules.two ≡ eqb (kk P) 2
  pub echo : rules.echo ≡ echo_quorum P
  pub reply : rules.reply ≡ reply_quorum P
  -- a server sends nothing to itself: its packed delay is 0 there
  pub delays : (i b : ℕ) → i < P.n → b < P.n → (i ≡ b → ⊥) → link_delay plan links t i b ≡ P.delay t i b
  pub replies : (i : ℕ) (r : Read) → i < P.n → In r P.reads → (P.n + r.reader < links.parties) × (link_delay plan links t i (P.n + r.reader) ≡ P.delay t i (P.n + r.reader))
  pub moving : is_some movement ≡ is_move P t
  pub faulty : is_move P t ≡ true → (b : ℕ) → b < P.n → is_seized movement b ≡ P.placed (t / P.period) b
  pub wrote : (b j : ℕ) → b < P.n → j < m → member (g j) (writes_in P t b) ≡ eqb j (wrote_at arrivals.requests arrivals.number b)
  pub asks : (b : ℕ) (r : Read) → b < P.n → In r P.reads → r.begun < t → t ≤ read_end P r
      → any (same_read r) (reads_in P t b) ≡ asks_at arrivals.requests b r.reader
  pub lasting : (r : Read) → In r P.reads → suc r.begun < t → t ≤ read_end P r → bit r.reader arrivals.live ≡ true
  pub began : (r : Read) → In r P.reads → suc r.begun ≡ t → bit r.reader arrivals.live ≡ false
