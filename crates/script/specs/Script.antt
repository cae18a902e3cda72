-- What the parts of a script say of the plan that it was read from.
use Rattle.std.specs.Prelude.{◌≡◌, List, ℕ, ◌≤◌}
use Rattle.plan.specs.Form.{most_width}
use Rattle.plan.specs.Header.{header_of}
use Rattle.plan.specs.Packed.{plan_of}
use Rattle.plan.specs.Playable.{Playable}
use Rattle.plan.specs.Shape.{shape}
use Rattle.tables.specs.Rules.{RulesOf, LinksOf}
use Rattle.tables.specs.Forged.{message_of, message_delay}
use Rattle.script.specs.declared.Script.{Script}
use Rattle.tables.specs.Operations.{Written, ReadIn}
use Rattle.forging.specs.Entries.{known_number, Filled, Starts}

-- the number of a forged message's pair, 255 if that pair is not known
abbrev pub message_number : ℕ → List ℕ → List ℕ → ℕ → ℕ → ℕ
message_number w s values m e = known_number w values m (message_of w s e)

-- the plan's forged messages are the first entries, and the starts are theirs
pub record Entered (w : ℕ) (s before after values : List ℕ) (m : ℕ) (starts : List ℕ) : Type 0 where
  pub filled : Filled before after (header_of w s).forgeries (message_of w s) (message_delay w s) (message_number w s values m)
  pub started : Starts after (header_of w s).forgeries starts

-- the bits of a value in the plan that a script was read from
abbrev pub width_in : Script → ℕ
width_in r = r.shape.width

-- a script, and the workspace before and after it was read
pub record Scripted (s before after : List ℕ) (r : Script) : Type 0 where
  pub narrow : width_in r ≤ most_width
  pub header : shape r.shape ≡ header_of (width_in r) s
  pub rules : RulesOf (header_of (width_in r) s) r.rules
  pub links : LinksOf (width_in r) (header_of (width_in r) s) r.links
  pub writes : Written (width_in r) (plan_of (width_in r) s).writes (header_of (width_in r) s).initial r.writes.known.values r.writes.begun r.writes.known.m
  pub reads : ReadIn (plan_of (width_in r) s).reads r.reads.begun r.reads.reader r.reads.m
  pub forged : Entered (width_in r) s before after r.writes.known.values r.writes.known.m r.starts

-- the script of a plan that can be played
pub record Decoded (s : List ℕ) (r : Script) : Type 0 where
  pub playable : Playable (width_in r) s
  -- the workspace before and after the script was read
  pub before : List ℕ
  pub after : List ℕ
  pub scripted : Scripted s before after r
