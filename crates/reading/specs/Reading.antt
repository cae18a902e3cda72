-- Reads end and begin: which of the table's reads, the bytes of an answer, and the readers afterwards.
use Rattle.std.specs.Prelude.{◌≡◌, Bool, ◌&&◌, List, ◌++◌, ℕ, zero, suc, ◌+◌, ◌*◌, ◌-◌, ◌≤◌, ◌<◌, ltb, length, get_or, set, take, drop}
use Rattle.limits.specs.Limits.{most_readers, places}
use Rattle.tables.specs.declared.Known.{Known}
use Rattle.tallies.specs.Tallies.{named_at, of_reader, holds}
use Rattle.tables.specs.Known.{pair_at, Narrow}
use Rattle.tables.specs.declared.operations.Reads.{Reads}
use Rattle.script.specs.declared.Script.{Script}
use Rattle.script.specs.Script.{width_in}
use Rattle.register.specs.Plan.{Read}
use Rattle.plan.specs.Form.{most_width}
use Rattle.requests.specs.Requests.{Asked}
use Rattle.requests.specs.Asking.{asked_between}
use Rattle.answers.specs.Answers.{answer_size, answer_bytes}
use Rattle.reading.specs.Choosing.{highest_of, answer_by}
use Rattle.reading.specs.declared.Reading.{Reading}

-- of m reads, from read k on, those before r begin before tick u, and read r does not
pub record Until (begun : List ℕ) (m k u r : ℕ) : Type 0 where
  pub from : k ≤ r
  pub few : r ≤ m
  pub below : (i : ℕ) → k ≤ i → i < r → get_or begun i 0 < u
  pub next : r < m → u ≤ get_or begun r 0

-- read i of the table
abbrev pub read_at : Reads → ℕ → Read
read_at reads i = record { begun = get_or reads.begun i 0; reader = get_or reads.reader i 0 }

-- the reads from .. to - 1 are there, and each has its reader
pub record There (by : List ℕ) (from to : ℕ) : Type 0 where
  pub ordered : from ≤ to
  pub few : to ≤ 255
  pub readers : (i : ℕ) → from ≤ i → i < to → (1 ≤ get_or by i 0) × (get_or by i 0 ≤ most_readers)

-- ---- answers

-- the bytes of read i's answer: its reader chooses of what it has noted; values have w bits
abbrev pub chosen_bytes : ℕ → List ℕ → Reads → Known → ℕ → ℕ → List ℕ
chosen_bytes w sets reads known reply i =
    answer_bytes w (read_at reads i) (answer_by (pair_at w known) (highest_of (λ j k. holds sets (of_reader (get_or reads.reader i 0 - 1) + j) k) reply known.m))

-- the buffer with the answer i at its own bytes
abbrev pub placed_at : ℕ → ℕ → List ℕ → List ℕ → List ℕ
placed_at w i bytes b = take (answer_size w * i) b ++ (bytes ++ drop (answer_size w) (drop (answer_size w * i) b))

-- with the answers from k on, n of them
unfoldable pub placed : ℕ → (ℕ → List ℕ) → ℕ → ℕ → List ℕ → List ℕ
placed w f k zero b = b
placed w f k (suc n) b = placed_at w (k + n) (f (k + n)) (placed w f k n b)

-- ---- begins

-- the ends of the readers' reads with those of the reads from k on, n of them
unfoldable pub begun_by : List ℕ → ℕ → ℕ → ℕ → List ℕ → List ℕ
begun_by by end k zero ends = ends
begun_by by end k (suc n) ends = set (begun_by by end k n ends) (get_or by (k + n) 0 - 1) end

-- the readers of these reads have noted nothing; all other rows of the table stay
pub record SetUp (by : List ℕ) (k n : ℕ) (sets then : List ℕ) : Type 0 where
  pub size : length then ≡ length sets
  pub votes : (c : ℕ) → c < named_at → get_or then c 0 ≡ get_or sets c 0
  pub none : (i : ℕ) → k ≤ i → i < k + n → (j : ℕ) → j < places → get_or then (of_reader (get_or by i 0 - 1) + j) 0 ≡ 0
  pub rest : (x : ℕ) → ((i : ℕ) → k ≤ i → i < k + n → x ≡ get_or by i 0 - 1 → ⊥) → (j : ℕ) → j < places → get_or then (of_reader x + j) 0 ≡ get_or sets (of_reader x + j) 0

-- ---- both in a tick

-- read k, of m, begins before tick u
abbrev pub is_before : List ℕ → ℕ → ℕ → ℕ → Bool
is_before begun m k u = ltb k m && ltb (get_or begun k 0) u

-- what is needed of the script and of the reads so far
pub record Begun (r : Script) (p : Reading) : Type 0 where
  pub table : There r.reads.reader 0 r.reads.m
  pub parties : (i : ℕ) → i < r.reads.m → r.links.n + get_or r.reads.reader i 0 < r.links.parties
  pub pairs : r.writes.known.m ≤ places
  pub width : width_in r ≤ most_width
  pub narrow : Narrow (width_in r) r.writes.known
  pub begun : p.begun ≤ r.reads.m
  pub answered : p.answered ≤ r.reads.m

-- the reads that end in tick t are answered, those that begin in it are set up, and their READs are under way
pub record WentOn (plan : List ℕ) (r : Script) (t : ℕ) (p q : Reading) (answers₀ answers₁ work₀ work₁ sets₀ sets₁ : List ℕ) : Type 0 where
  pub ended : Until r.reads.begun r.reads.m p.answered (t + 1 - 2 * r.rules.delta) q.answered
  pub began : Until r.reads.begun r.reads.m p.begun (t + 1) q.begun
  pub answers : answers₁ ≡ placed (width_in r) (chosen_bytes (width_in r) sets₀ r.reads r.writes.known r.rules.reply) p.answered (q.answered - p.answered) answers₀
  pub ends : q.ends ≡ begun_by r.reads.reader (t + 2 * r.rules.delta) p.begun (q.begun - p.begun) p.ends
  pub table : SetUp r.reads.reader p.begun (q.begun - p.begun) sets₀ sets₁
  pub asked : Asked work₀ work₁ (asked_between plan r.links r.links.n t r.reads.reader p.begun q.begun)
