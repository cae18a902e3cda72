-- Which requests the operations that begin in a tick bring under way.
use Rattle.std.specs.Prelude.{◌≡◌, Bool, not, ◌&&◌, ◌||◌, cond, List, ℕ, suc, ◌+◌, ◌%◌, ◌≤◌, ◌<◌, eqb, leb, ltb, get_or}
use Rattle.register.specs.Lists.{any_up_to}
use Rattle.calendar.specs.Layout.{slots}
use Rattle.tables.specs.declared.Links.{Links}
use Rattle.tables.specs.Links.{link_delay}
use Rattle.requests.specs.Requests.{party_slots, reached_by, SameOutside}

-- party p's request, sent in tick t to all servers, reaches server b in tick s
unfoldable pub asked_by : List ℕ → Links → ℕ → ℕ → ℕ → ℕ → ℕ → ℕ → Bool
asked_by plan links n t p s q b = ltb b n && (eqb q p && eqb ((t + link_delay plan links t (n + p) b) % slots) (s % slots))

-- the reads from .. to - 1 are in the table, and their readers are parties
pub record Readers (by : List ℕ) (from to n parties : ℕ) : Type 0 where
  pub ordered : from ≤ to
  pub few : to ≤ 255
  pub each : (i : ℕ) → from ≤ i → i < to → n + get_or by i 0 < parties

-- one of the reads from .. to - 1 does
unfoldable pub asked_between : List ℕ → Links → ℕ → ℕ → List ℕ → ℕ → ℕ → ℕ → ℕ → ℕ → Bool
asked_between plan links n t by from to s q b = any_up_to to (λ i. leb from i && asked_by plan links n t (get_or by i 0) s q b)

-- the write after this one, of m pairs, begins in tick t
abbrev pub begins : List ℕ → ℕ → ℕ → ℕ → Bool
begins begun m t number = ltb (suc number) m && eqb (get_or begun (suc number) 0) t

-- the requests of tick t are taken, and its WRITE is under way
pub record WroteOn (plan : List ℕ) (links : Links) (n t : ℕ) (begun : List ℕ) (m number r : ℕ) (a b : List ℕ) : Type 0 where
  pub next : r ≡ cond (begins begun m t number) (suc number) number
  pub outside : SameOutside a b
  pub requests : (s q c : ℕ) → q < party_slots
      → reached_by b s q c ≡ ((not (eqb (s % slots) (t % slots)) && reached_by a s q c) || (begins begun m t number && asked_by plan links n t 0 s q c))
