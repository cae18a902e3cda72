-- The engine's stages on a server apart from how it is stored. Pairs are known by number, those below m; e and r are the quorums.
use Rattle.std.specs.Prelude.{Bool, true, false, ◌&&◌, ◌||◌, cond, List, [], ℕ, zero, suc, leb, ltb, take}
use Rattle.register.specs.Lists.{count, same_list}
use Rattle.register.specs.Server.{Status, faulty, cured, correct, is_faulty, is_correct, cured_at, insert}
use Rattle.plan.specs.Packed.{store_depth}
use Rattle.limits.specs.Limits.{most_servers, no_pair}
use Rattle.tables.specs.declared.Rules.{Rules}
use Rattle.tallies.specs.Tallies.{no_votes, joined}
use Rattle.serving.specs.Stored.{Plain, Both}
use Rattle.sending.specs.Sends.{Said}

abbrev pub nobody : ℕ → Bool
nobody x = false

abbrev pub blank_as : Status → Plain
blank_as s = record { status = s; kept = []; pending = nobody; fresh = no_votes; recent = no_votes }

abbrev pub silent : Said
silent = record { wrote = no_pair; echoed = false; readers = nobody; pairs = [] }

-- ---- what the methods do

abbrev pub restated : Status → Plain → Plain
restated st s = record { status = st; kept = s.kept; pending = s.pending; fresh = s.fresh; recent = s.recent }

abbrev pub written : ℕ → Plain → Plain
written p s = record { status = s.status; kept = take store_depth (insert p s.kept); pending = s.pending; fresh = s.fresh; recent = s.recent }

abbrev pub reset_at : ℕ → Plain
reset_at t = blank_as (cured t)

abbrev pub cure_ended : ℕ → ℕ → Plain → Plain
cure_ended delta t s = cond (cured_at delta t s.status) (restated correct s) s

abbrev pub turned : Bool → Plain → Plain
turned two s = record { status = s.status; kept = s.kept; pending = s.pending; fresh = no_votes; recent = cond two s.fresh no_votes }

-- ---- stage 1

-- do the voters of the present period and those of the last k periods make a quorum
abbrev pub quorate : ℕ → ℕ → (ℕ → Bool) → (ℕ → Bool) → Bool
quorate e r fresh recent = leb e (count fresh most_servers) || leb r (count recent most_servers)

-- pair j has a quorum
abbrev pub voting : ℕ → ℕ → (ℕ → ℕ → Bool) → (ℕ → ℕ → Bool) → ℕ → Bool
voting e r fresh recent j = quorate e r (fresh j) (recent j)

-- the pairs 0 .. m - 1 that pass, taken in by number
unfoldable pub taken : (ℕ → Bool) → ℕ → List ℕ → List ℕ
taken c zero l = l
taken c (suc j) l = cond (c j) (take store_depth (insert j (taken c j l))) (taken c j l)

-- the WRITE's pair, if its number is a known one
abbrev pub with_write : ℕ → ℕ → Plain → Plain
with_write m w s = cond (ltb w m) (written w s) s

abbrev pub replies_to : Bool → Bool → (ℕ → Bool) → (ℕ → Bool) → ℕ → Bool
replies_to false same asks list = nobody
replies_to true true asks list = asks
replies_to true false asks list = list

-- the pairs from one number to before another
abbrev pub in_span : ℕ → ℕ → ℕ → Bool
in_span low high j = leb low j && ltb j high

-- with the pairs that pass
unfoldable pub delivered_of : ℕ → (ℕ → Bool) → ℕ → (ℕ → ℕ → Bool) → (ℕ → Bool) → (ℕ → Bool) → Plain → Both
delivered_of m c w got asks live s =
    let kept : List ℕ = taken c m (with_write m w s).kept in
    let list : ℕ → Bool = λ x. (s.pending x && live x) || asks x in
    record {
      server = record { status = s.status; kept = kept; pending = list; fresh = joined m s.fresh got; recent = joined m s.recent got };
      said = record { wrote = w; echoed = false; readers = replies_to (is_correct s.status) (same_list s.kept kept) asks list; pairs = kept };
    }

-- the number of the WRITE that arrives, the votes, the readers whose READ arrives, and those whose read did not begin in the last tick
unfoldable pub delivered : ℕ → ℕ → ℕ → ℕ → (ℕ → ℕ → Bool) → (ℕ → Bool) → (ℕ → Bool) → Plain → Both
delivered m e r w got asks live s = delivered_of m (voting e r (joined m s.fresh got) (joined m s.recent got)) w got asks live s

unfoldable pub stage_one : ℕ → ℕ → ℕ → ℕ → (ℕ → ℕ → Bool) → (ℕ → Bool) → (ℕ → Bool) → Plain → Both
stage_one m e r w got asks live s =
    cond (is_faulty s.status) (record { server = s; said = silent }) (delivered m e r w got asks live s)

-- ---- stages 2 to 4

unfoldable pub stage_two : ℕ → ℕ → Both → Both
stage_two delta t o =
    cond (cured_at delta t o.server.status)
    (record {
      server = restated correct o.server;
      said = record { wrote = o.said.wrote; echoed = o.said.echoed; readers = o.server.pending; pairs = o.server.kept };
    })
    o

unfoldable pub moved_on : Bool → Bool → ℕ → Plain → Plain
moved_on two now-faulty t s =
    cond now-faulty (blank_as faulty) (cond (is_faulty s.status) (reset_at t) (turned two s))

-- stages 3 and 4 at a movement
unfoldable pub stage_four : Bool → Bool → ℕ → Both → Both
stage_four two now-faulty t o =
    let s : Plain = moved_on two now-faulty t o.server in
    record { server = s; said = record { wrote = o.said.wrote; echoed = is_correct s.status; readers = o.said.readers; pairs = o.said.pairs } }

-- all stages
unfoldable pub stages_of : ℕ → Rules → ℕ → (ℕ → ℕ → Bool) → (ℕ → Bool) → (ℕ → Bool) → Bool → Bool → ℕ → Plain → Both
stages_of m rules w got asks live moving now-faulty t s =
    let second : Both = stage_two rules.delta t (stage_one m rules.echo rules.reply w got asks live s) in
    cond moving (stage_four rules.two now-faulty t second) second
