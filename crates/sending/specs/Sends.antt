-- What a server sends in a tick, as messages in the calendar: by row (tick of arrival and receiver), pair and sender.
use Rattle.std.specs.Prelude.{Bool, not, ◌&&◌, ◌||◌, List, ℕ, ◌+◌, ◌-◌, ◌/◌, ◌%◌, ◌<◌, eqb, leb, ltb, get_or}
use Rattle.register.specs.Lists.{member}
use Rattle.limits.specs.Limits.{most_servers}
use Rattle.calendar.specs.Layout.{slots, readers_at, receivers}
use Rattle.sending.specs.declared.Sender.{Sender}
use Rattle.tables.specs.Links.{link_delay, Linked}

-- its delays lie in the plan
pub record Ready (plan : List ℕ) (s : Sender) : Type 0 where
  pub linked : Linked plan s.links s.links.n (s.t + 1)
  pub tick : s.t < 128
  pub sender : s.i < s.links.n

-- what it sent in a tick: a vote for the pair number `wrote`, if there is one; votes for its pairs, if it echoed; its pairs to some readers
pub record Said : Type 0 where
  pub wrote : ℕ
  pub echoed : Bool
  pub readers : ℕ → Bool
  pub pairs : List ℕ

-- its votes: for the pair of a WRITE, and at an echo for the pairs that it keeps
abbrev pub votes_for : Said → ℕ → Bool
votes_for said j = eqb j said.wrote || (said.echoed && member j said.pairs)

-- a server in a tick
module _ (plan : List ℕ) (s : Sender) where
  -- the tick in which what it sends reaches party q
  abbrev pub reaches : ℕ → ℕ
  reaches q = s.t + link_delay plan s.links s.t s.i q

  -- a vote for pair j, one of P, to server x % receivers, which is another one
  unfoldable pub sends_vote : (ℕ → Bool) → ℕ → ℕ → Bool
  sends_vote P x j =
      ltb (x % receivers) s.links.n
      && (not (eqb (x % receivers) s.i)
      && (eqb (reaches (x % receivers) % slots) (x / receivers)
      && P j))

  -- a reply that names pair j, one of P, to reader x % receivers - 15, if it is one of R, there is such a reader, and the reply arrives by the end of its
  -- read; `ends` has the tick in which each reader's last read ends
  unfoldable pub sends_reply : List ℕ → (ℕ → Bool) → (ℕ → Bool) → ℕ → ℕ → Bool
  sends_reply ends R P x j =
      leb most_servers (x % receivers)
      && (R (x % receivers - readers_at)
      && (ltb (s.links.n + (x % receivers - readers_at)) s.links.parties
      && (leb (reaches (s.links.n + (x % receivers - readers_at))) (get_or ends (x % receivers - most_servers) 0)
      && (eqb (reaches (s.links.n + (x % receivers - readers_at)) % slots) (x / receivers)
      && P j))))

  abbrev pub sends : List ℕ → Said → ℕ → ℕ → Bool
  sends ends said x j = sends_vote (votes_for said) x j || sends_reply ends said.readers (λ y. member y said.pairs) x j
