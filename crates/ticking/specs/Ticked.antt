-- Playing the ticks of a plan that can be played: what is needed, and the state that is reached.
use Rattle.std.specs.Prelude.{◌≡◌, List, ℕ, ◌*◌, ◌-◌, ◌≤◌, ◌<◌, length, get_or}
use Rattle.register.specs.Reading.{answer_of}
use Rattle.plan.specs.{Packed.plan_of}
use Rattle.limits.specs.Limits.{most_servers}
use Rattle.requests.specs.Requests.{SameBehind}
use Rattle.tallies.specs.Tallies.{table_size}
use Rattle.stores.specs.Stores.{Valued}
use Rattle.serving.specs.Stored.{absent}
use Rattle.tables.specs.Known.{pair_at}
use Rattle.refinement.specs.State.{State}
use Rattle.refinement.specs.Requests.{Requested}
use Rattle.script.specs.declared.Script.{Script}
use Rattle.tables.specs.Operations.{no_read}
use Rattle.forging.specs.Entries.{entries_end}
use Rattle.script.specs.Inputs.{LatestWrite}
use Rattle.script.specs.Script.{Decoded, width_in}
use Rattle.answers.specs.Answers.{answer_bytes}
use Rattle.reading.specs.Reading.{Until, placed}
use Rattle.ticking.specs.declared.Playing.{Playing}

-- the script of a plan that can be played, whose forged entries stand in the workspace
pub record Ready (s work : List ℕ) (r : Script) : Type 0 where
  pub decoded : Decoded s r
  pub room : entries_end ≤ length work
  pub kept : SameBehind decoded.after work

-- the ticks below t are played: what has begun, and what has ended
pub record PlayedTo (s work sets : List ℕ) (r : Script) (p : Playing) : Type 0 where
  pub size : length p.cluster.servers ≡ most_servers
  pub table : length sets ≡ table_size
  pub state : State (plan_of (width_in r) s) (pair_at (width_in r) r.writes.known) r.writes.known.m p.tick p.cluster sets work
  -- the pairs of a store have the values of the known ones
  pub valued : (b : ℕ) → b < r.rules.n → Valued r.writes.known.values (get_or p.cluster.servers b absent).kept
  pub requested : Requested (plan_of (width_in r) s) p.tick work
  pub written : LatestWrite r.writes.begun r.writes.known.m p.tick p.written
  pub begun : Until r.reads.begun r.reads.m 0 p.tick p.begun
  pub answered : Until r.reads.begun r.reads.m 0 (p.tick - 2 * r.rules.delta) p.answered

-- the bytes of the answer of read i
abbrev pub answer_part : ℕ → List ℕ → ℕ → List ℕ
answer_part w s i = answer_bytes w (get_or (plan_of w s).reads i no_read) (answer_of (plan_of w s) (get_or (plan_of w s).reads i no_read))

-- the ticks from p on are played up to q: the workspace past the calendar and the requests stays, and the reads that end in them are answered
pub record Went (s work₀ work₁ sets₀ sets₁ answers₀ answers₁ : List ℕ) (r : Script) (p q : Playing) : Type 0 where
  pub kept : SameBehind work₀ work₁
  pub played : PlayedTo s work₁ sets₁ r q
  pub ordered : p.answered ≤ q.answered
  pub answers : answers₁ ≡ placed (width_in r) (answer_part (width_in r) s) p.answered (q.answered - p.answered) answers₀
