-- The engine's state stands for the cluster of the step rules: each server for its server, the calendar for what is under way, the table of sets for the
-- votes of each server and for what each reader's open read has noted. Votes and replies are kept for the known pairs only: pair j is g j, j < m.
use Rattle.std.specs.Prelude.{◌≡◌, Bool, false, ◌&&◌, ◌||◌, List, [], map, ℕ, suc, ◌+◌, ◌-◌, ◌≤◌, ◌<◌, T, ltb, get_or, length}
use Rattle.register.specs.Lists.{any, In}
use Rattle.register.specs.Plan.{Plan, Read, read_end, echo_quorum, reply_quorum}
use Rattle.register.specs.Server.{Claim, Server, has, is_faulty}
use Rattle.register.specs.Cluster.{Log, server_of, cluster}
use Rattle.register.specs.Reading.{same_read}
use Rattle.plan.specs.Packed.{store_depth}
use Rattle.limits.specs.Limits.{most_readers}
use Rattle.calendar.specs.Layout.{slots, readers_at, row_of, sender}
use Rattle.calendar.specs.View.{Spanned}
use Rattle.tallies.specs.Tallies.{of_reader, holds}
use Rattle.serving.specs.Stored.{Plain}
use Rattle.serving.specs.Stages.{nobody}
use Rattle.serving.specs.Settled.{Settled}
use Rattle.cluster.specs.declared.Cluster.{Cluster}
use Rattle.cluster.specs.Tick.{server_at}
use Rattle.refinement.specs.Way.{vote_way, reply_way, heard_way}

module _ (P : Plan) where
  -- a read that is open in tick t, or ends in it
  pub record Open (t : ℕ) (r : Read) : Type 0 where
    pub listed : In r P.reads
    pub begun : r.begun < t
    pub lasts : t ≤ read_end P r

  -- reader x has none
  abbrev pub Idle : ℕ → ℕ → Type 0
  Idle t x = (r : Read) → In r P.reads → r.reader ≡ x → r.begun < t → read_end P r < t

  module _ (g : ℕ → ℕ) (m : ℕ) where
    -- the sets of voters by number say who voted for the pair of this number
    abbrev pub Votes : List Claim → (ℕ → ℕ → Bool) → Type 0
    Votes vs f = (j i : ℕ) → j < m → f j i ≡ (ltb i P.n && has vs (g j) i)

    -- in the present period or the one before it
    abbrev pub Recently : List Claim → List Claim → (ℕ → ℕ → Bool) → Type 0
    Recently fresh old f = (j i : ℕ) → j < m → f j i ≡ (ltb i P.n && (has fresh (g j) i || has old (g j) i))

    -- a server before tick t
    pub record Rep (t : ℕ) (x : Server) (s : Plain) : Type 0 where
      pub status : x.status ≡ s.status
      pub kept : x.kept ≡ map g s.kept
      pub short : length x.kept ≤ store_depth
      pub fresh : Votes x.fresh s.fresh
      pub recent : Recently x.fresh x.old s.recent
      -- a read that is open: its reader's bit
      pub heard : (r : Read) → In r P.reads → suc r.begun < t → t ≤ suc (read_end P r) → any (same_read r) x.pending ≡ s.pending r.reader
      pub unheard : (r : Read) → In r P.reads → t ≤ suc r.begun → any (same_read r) x.pending ≡ false
      pub empty : T (is_faulty x.status) → (x.pending ≡ []) × (s.pending ≡ nobody)

    -- what is under way before tick t, in the sixteen ticks from t on
    pub record Calendar (t : ℕ) (log : Log) (work : List ℕ) : Type 0 where
      pub votes : (s b j i : ℕ) → t ≤ s → s < t + slots → b < P.n → j < m → sender work (row_of s b) j i ≡ (ltb i P.n && vote_way P log t s b (g j) i)
      pub replies : (r : Read) → Open t r → (s j i : ℕ) → t ≤ s → s < t + slots → j < m
          → sender work (row_of s (readers_at + r.reader)) j i ≡ (ltb i P.n && reply_way P log t r s (g j) i)
      pub none : (r : Read) → In r P.reads → Idle t r.reader → (s j i : ℕ) → t ≤ s → s < t + slots → j < m → sender work (row_of s (readers_at + r.reader)) j i ≡ false
      pub spans : Spanned work

    -- what the readers have noted before tick t; `ends` has the tick in which each reader's last read ends
    pub record Hears (t : ℕ) (log : Log) (ends sets : List ℕ) : Type 0 where
      pub size : length ends ≡ most_readers
      pub end : (r : Read) → Open t r → get_or ends (r.reader - 1) 0 ≡ read_end P r
      pub named : (r : Read) → Open t r → (j i : ℕ) → j < m → holds sets (of_reader (r.reader - 1) + j) i ≡ (ltb i P.n && heard_way P log t r (g j) i)
      -- a reader with no open read takes nothing that is sent now
      pub idle : (r : Read) → In r P.reads → Idle t r.reader → get_or ends (r.reader - 1) 0 ≤ t

    -- the cluster before tick t
    pub record State (t : ℕ) (c : Cluster) (sets work : List ℕ) : Type 0 where
      pub servers : (b : ℕ) → b < P.n → Rep t (server_of (cluster P t) b) (server_at m sets c.servers b)
      pub settled : (b : ℕ) → b < P.n → Settled m (echo_quorum P) (reply_quorum P) (server_at m sets c.servers b)
      pub calendar : Calendar t (cluster P t).log work
      pub readers : Hears t (cluster P t).log c.ends sets
