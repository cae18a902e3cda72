-- What a server's methods do to it and to its rows of the table.
use Rattle.std.specs.Prelude.{◌≡◌, Bool, ◌&&◌, cond, List, ℕ, ◌+◌, ◌≤◌, ◌<◌, length, take, get_or, set}
use Rattle.std.specs.Int.Bits.{bit_or}
use Rattle.register.specs.Server.{faulty, is_faulty, insert}
use Rattle.plan.specs.Packed.{store_depth}
use Rattle.calendar.specs.declared.Stamped.{Stamped}
use Rattle.limits.specs.Bits.{bit}
use Rattle.limits.specs.Limits.{most_servers, places}
use Rattle.calendar.specs.Layout.{rows, calendar_size, low_of, high_of, sender}
use Rattle.calendar.specs.View.{Spanned}
use Rattle.tables.specs.declared.Rules.{Rules}
use Rattle.serving.specs.declared.Server.{Server}
use Rattle.serving.specs.declared.Turn.{Turn}
use Rattle.serving.specs.declared.stages.Delivered.{Delivered}
use Rattle.tallies.specs.Tallies.{recent_at, table_size, of_server, row_of_sets, SameOthers, joined}
use Rattle.serving.specs.Stored.{status_of, server, said_first}
use Rattle.stores.specs.Stores.{keys, Faithful, Valued}
use Rattle.serving.specs.Stages.{quorate, voting, taken, in_span, delivered, blank_as, reset_at}

-- what a server's row of the calendar and of the table need
pub record Reachable (work sets values : List ℕ) (turn : Turn) : Type 0 where
  pub room : calendar_size ≤ length work
  pub spans : Spanned work
  pub table : length sets ≡ table_size
  pub known : length values ≡ places
  pub server : turn.server < most_servers
  pub row : turn.row < rows
  pub pairs : turn.m ≤ places

-- the servers of a set have voted for pair p, whose cell is `at`
pub record Heard (rules : Rules) (at got : ℕ) (p : Stamped) (s r : Server) (sets after : List ℕ) : Type 0 where
  pub table : after ≡ set (set sets at (bit_or (get_or sets at 0) got)) (recent_at + at) (bit_or (get_or sets (recent_at + at) 0) got)
  pub status : r.status ≡ s.status
  pub pending : r.pending ≡ s.pending
  pub kept : keys r.kept
      ≡ cond (quorate rules.echo rules.reply (λ i. bit i (bit_or (get_or sets at 0) got)) (λ i. bit i (bit_or (get_or sets (recent_at + at) 0) got)))
      (take store_depth (insert p.number (keys s.kept))) (keys s.kept)
  pub valued : (values : List ℕ) → Valued values s.kept → Faithful values p → Valued values r.kept

-- a server's votes with those that arrive in its row of the calendar
module _ (work : List ℕ) (turn : Turn) (sets : List ℕ) where
  abbrev pub fresh_with : ℕ → ℕ → Bool
  fresh_with = joined turn.m (row_of_sets turn.m sets (of_server turn.server)) (sender work turn.row)

  abbrev pub recent_with : ℕ → ℕ → Bool
  recent_with = joined turn.m (row_of_sets turn.m sets (recent_at + of_server turn.server)) (sender work turn.row)

-- the votes of its row are noted, and each pair of the row's span that has a quorum then is taken in
pub record Voted (work values : List ℕ) (turn : Turn) (s r : Server) (sets after : List ℕ) : Type 0 where
  pub others : SameOthers sets after turn.server
  pub fresh : row_of_sets turn.m after (of_server turn.server) ≡ fresh_with work turn sets
  pub recent : row_of_sets turn.m after (recent_at + of_server turn.server) ≡ recent_with work turn sets
  pub status : r.status ≡ s.status
  pub pending : r.pending ≡ s.pending
  pub kept : keys r.kept
      ≡ taken (λ j. in_span (low_of work turn.row) (high_of work turn.row) j && voting turn.rules.echo turn.rules.reply (fresh_with work turn sets) (recent_with work turn sets) j)
      turn.m (keys s.kept)
  pub valued : Valued values s.kept → Valued values r.kept

-- stage 1 at a server that is not faulty
pub record DeliveredTo (work values : List ℕ) (turn : Turn) (s : Server) (r : Delivered) (sets after : List ℕ) : Type 0 where
  pub others : SameOthers sets after turn.server
  pub stage : record { server = server turn.m after turn.server r.server; said = said_first turn.wrote r.readers r.server.kept }
      ≡ delivered turn.m turn.rules.echo turn.rules.reply turn.wrote (sender work turn.row) (λ x. bit x turn.asks) (λ x. bit x turn.live)
      (server turn.m sets turn.server s)
  pub valued : Valued values s.kept → Valued values r.server.kept

-- server b is reset in tick t
pub record Reset (b t : ℕ) (r : Server) (sets after : List ℕ) : Type 0 where
  pub others : SameOthers sets after b
  pub blank : (m : ℕ) → m ≤ places → server m after b r ≡ reset_at t
  pub valued : (values : List ℕ) → Valued values r.kept

-- stage 3 at server b, whose new voting period has begun
pub record MovedTo (b : ℕ) (now-faulty : Bool) (t : ℕ) (s r : Server) (sets after : List ℕ) : Type 0 where
  pub others : SameOthers sets after b
  pub stage : (m : ℕ) → m ≤ places → server m after b r ≡ cond now-faulty (blank_as faulty) (cond (is_faulty (status_of s.status)) (reset_at t) (server m sets b s))
  pub valued : (values : List ℕ) → Valued values s.kept → Valued values r.kept
