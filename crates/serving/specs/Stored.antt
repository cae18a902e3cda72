-- A server apart from how it is stored: sets as functions, a store as the list of its pairs' numbers; and what it says in a tick.
use Rattle.std.specs.Prelude.{◌≡◌, Bool, false, List, [], ℕ, ◌+◌}
use Rattle.register.specs.Server.{Status, faulty, cured, correct}
use Rattle.calendar.specs.declared.Stamped.{Stamped}
use Rattle.limits.specs.Bits.{bit}
use Rattle.stores.specs.Stores.{keys}
use Rattle.tallies.specs.Tallies.{recent_at, of_server, row_of_sets}
use Rattle.sending.specs.Sends.{Said}
use Rattle.serving.specs.declared.Status.{Status as StoredStatus}
use Rattle.serving.specs.declared.Status.TheVariants.{Faulty, Cured, Correct}
use Rattle.serving.specs.declared.Server.{Server}

-- a server; votes by the number of a pair and the sender: those of the present period, and those of the last k periods together
pub record Plain : Type 0 where
  pub status : Status
  pub kept : List ℕ
  pub pending : ℕ → Bool
  pub fresh : ℕ → ℕ → Bool
  pub recent : ℕ → ℕ → Bool

pub record Both : Type 0 where
  pub server : Plain
  pub said : Said

abbrev pub status_of : StoredStatus → Status
status_of Faulty = faulty
status_of (Cured c) = cured c
status_of Correct = correct

-- server b, whose votes for the m known pairs stand in the table
abbrev pub server : ℕ → List ℕ → ℕ → Server → Plain
server m sets b s = record {
  status = status_of s.status;
  kept = keys s.kept;
  pending = λ x. bit x s.pending;
  fresh = row_of_sets m sets (of_server b);
  recent = row_of_sets m sets (recent_at + of_server b);
}

-- the server becomes what f makes of it, whatever its votes are
abbrev pub Becomes : (Plain → Plain) → Server → Server → Type 0
Becomes f s r = (m : ℕ) (sets : List ℕ) (b : ℕ) → server m sets b r ≡ f (server m sets b s)

-- what a server says in stage 1
abbrev pub said_first : ℕ → ℕ → List Stamped → Said
said_first wrote readers kept = record { wrote = wrote; echoed = false; readers = λ x. bit x readers; pairs = keys kept }

-- what is read past the end of an array of servers
abbrev pub absent : Server
absent = record { status = Faulty; kept = []; pending = 0 }
