-- The forged entries of the workspace: what the code writes there for the forged messages of a plan, and where the entries of a tick start.
-- They stand behind the requests, 8 bytes each: tick sent, tick of arrival, receiver, sender, number (255: not a known pair).
use Rattle.std.specs.Prelude.{◌≡◌, ◌&&◌, cond, ◌⊎◌, List, ℕ, ◌+◌, ◌*◌, ◌≤◌, ◌<◌, eqb, ltb, length, get_or, set}
use Rattle.register.specs.Plan.{Forgery, value_of, number_of}
use Rattle.tables.specs.declared.Links.{Links}
use Rattle.limits.specs.Limits.{places}
use Rattle.requests.specs.Requests.{requests_end}
use Rattle.tables.specs.Forged.{most_entries, Legible}

-- the byte at which they begin, and the byte behind them
abbrev pub entries_at : ℕ
entries_at = requests_end

abbrev pub entries_end : ℕ
entries_end = entries_at + 8 * most_entries

-- byte k of entry e
abbrev pub entry_at : List ℕ → ℕ → ℕ → ℕ
entry_at work e k = get_or work (entries_at + 8 * e + k) 0

-- the number, if it is that of a known pair with this value; else 255
unfoldable pub number_in : List ℕ → ℕ → ℕ → ℕ → ℕ
number_in values m value number = cond (ltb number m && eqb (get_or values number 0) value) number 255

-- of a forged message: the number of its pair
abbrev pub known_number : ℕ → List ℕ → ℕ → Forgery → ℕ
known_number w values m g = number_in values m (value_of w g.pair) (number_of w g.pair)

-- five bytes from byte `at` on
unfoldable pub entry_bytes : List ℕ → ℕ → ℕ → ℕ → ℕ → ℕ → ℕ → List ℕ
entry_bytes work at a b c d e = set (set (set (set (set work at a) (at + 1) b) (at + 2) c) (at + 3) d) (at + 4) e

-- so many forged messages can be read, and there is room for their entries
pub record Fillable (w : ℕ) (work part : List ℕ) (offset count : ℕ) (plan : List ℕ) (links : Links) (n m : ℕ) : Type 0 where
  pub messages : Legible w part offset count plan links n
  pub room : entries_end ≤ length work
  pub pairs : m ≤ places

-- entry e is the forged message g, with this delay and number
pub record Entry (work : List ℕ) (e : ℕ) (g : Forgery) (delay number : ℕ) : Type 0 where
  pub sent : entry_at work e 0 ≡ g.at
  pub arrival : entry_at work e 1 ≡ g.at + delay
  pub receiver : entry_at work e 2 ≡ g.to
  pub sender : entry_at work e 3 ≡ g.from
  pub known : entry_at work e 4 ≡ number

-- the first entries are the forged messages; no byte outside them has changed
pub record Filled (before after : List ℕ) (count : ℕ) (g : ℕ → Forgery) (delay number : ℕ → ℕ) : Type 0 where
  pub size : length after ≡ length before
  pub entry : (e : ℕ) → e < count → Entry after e (g e) (delay e) (number e)
  pub other : (p : ℕ) → (p < entries_at) ⊎ (entries_at + 8 * count ≤ p) → get_or after p 0 ≡ get_or before p 0

-- s entries, counted from entry e on, were sent before tick u, and the next one was not
pub record Start (work : List ℕ) (e count u s : ℕ) : Type 0 where
  pub few : s ≤ count
  pub below : (i : ℕ) → e ≤ i → i < s → entry_at work i 0 < u
  pub next : s < count → u ≤ entry_at work s 0

pub record Starts (work : List ℕ) (count : ℕ) (r : List ℕ) : Type 0 where
  pub each : (u : ℕ) → u < 129 → Start work 0 count u (get_or r u 0)
