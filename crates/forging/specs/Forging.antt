-- Stage 5: what the forged entries of the workspace post.
use Rattle.std.specs.Prelude.{Bool, ◌&&◌, ◌||◌, List, ℕ, ◌+◌, ◌-◌, ◌≤◌, ◌<◌, eqb, leb, ltb, get_or}
use Rattle.register.specs.Lists.{any_up_to}
use Rattle.limits.specs.Limits.{most_readers}
use Rattle.calendar.specs.Layout.{readers_at, row_of}
use Rattle.calendar.specs.Posts.{Messages}
use Rattle.forging.specs.Entries.{entry_at}
use Rattle.tables.specs.Forged.{most_entries}

-- n servers; the ticks in which the readers' reads end, as they are when the messages are sent
module _ (ends : List ℕ) (n : ℕ) where
  -- a message to party q that arrives in tick a goes to row x: a vote, or a reply to reader q - n, if it arrives by the end of its read
  unfoldable pub goes_to : ℕ → ℕ → ℕ → Bool
  goes_to q a x =
      (ltb q n && eqb x (row_of a q))
      || (ltb n q && (leb (q - n) most_readers && (leb a (get_or ends (q - n - 1) 0) && eqb x (row_of a (readers_at + (q - n))))))

  -- what entry e posts: its sender and its number, where it goes
  abbrev pub forged_entry : List ℕ → ℕ → Messages
  forged_entry work e x j i = goes_to (entry_at work e 2) (entry_at work e 1) x && (eqb i (entry_at work e 3) && eqb j (entry_at work e 4))

  -- what the entries from .. to - 1 post
  abbrev pub forges : List ℕ → ℕ → ℕ → Messages
  forges work from to x j i = any_up_to to (λ e. leb from e && forged_entry work e x j i)

-- the entries of tick t: those from as many on as are sent before it, each by a server
pub record SentIn (work starts : List ℕ) (t : ℕ) : Type 0 where
  pub ordered : get_or starts t 0 ≤ get_or starts (t + 1) 0
  pub few : get_or starts (t + 1) 0 ≤ most_entries
  pub senders : (e : ℕ) → e < get_or starts (t + 1) 0 → entry_at work e 3 < 16
