-- What the relation with the step rules says in the course of a tick: of what a server sent by the rules and by the engine, of a server in the middle and at the
-- end of the tick, and of what arrives at it.
use mathlib.Core.Path.{◌≡◌, refl}
use mathlib.Core.Bool.{Bool, true, false, not, ◌&&◌, ◌||◌, cond}
use mathlib.Core.List.{List, map}
use Prim.Native.Nat.{ℕ, suc, ◌≤◌, ◌<◌}
use lib.Dec.{T, eqb}
use Rattle.register.specs.Lists.{any, In, member}
use Rattle.register.specs.Plan.{Plan, Read, read_end}
use Rattle.register.specs.Server.{is_faulty, Claim, Sent, Out}
use Rattle.register.specs.Reading.{same_read}
use Rattle.sending.specs.Sends.{Said}
use Rattle.serving.specs.Stored.{Both}
use Rattle.refinement.specs.State.{Votes, Rep}

-- what holds of both first branches and of both second ones holds of those that one test takes
pub both_cond : {A B : Type 0} (Q : A → B → Type 0) (b : Bool) (x y : A) (u v : B) → (b ≡ true → Q x u) → (b ≡ false → Q y v) → Q (cond b x y) (cond b u v)
both_cond Q true x y u v f h = f refl
both_cond Q false x y u v f h = h refl

module _ (P : Plan) (g : ℕ → ℕ) (m : ℕ) where
  pub record Told (t : ℕ) (o : Sent) (q : Said) : Type 0 where
    pub votes : (j : ℕ) → j < m → member (g j) o.votes ≡ eqb j q.wrote || (q.echoed && member j q.pairs)
    pub readers : (r : Read) → In r P.reads → r.begun < t → t ≤ read_end P r → any (same_read r) o.reply_to ≡ q.readers r.reader
    pub pairs : o.reply_with ≡ map g q.pairs

  -- after stages 1 and 2
  pub record Mid (t : ℕ) (o : Out) (q : Both) : Type 0 where
    pub server : Rep P g m (suc t) o.server q.server
    pub sent : Told t o.sent q.said
    pub whole : T (not (is_faulty o.server.status)) → o.sent.reply_with ≡ o.server.kept
    pub quiet : q.said.echoed ≡ false

  -- after the tick
  pub record End (t : ℕ) (o : Out) (q : Both) : Type 0 where
    pub server : Rep P g m (suc t) o.server q.server
    pub sent : Told t o.sent q.said

  -- what arrives in tick t: the number w of the WRITE, the votes, the readers asking, and those whose read did not begin in tick t - 1
  pub record Came (t : ℕ) (ws : List ℕ) (vs : List Claim) (rs : List Read) (w : ℕ) (got : ℕ → ℕ → Bool) (asks live : ℕ → Bool) : Type 0 where
    pub wrote : (j : ℕ) → j < m → member (g j) ws ≡ eqb j w
    pub votes : Votes P g m vs got
    pub asking : (r : Read) → In r P.reads → r.begun < t → t ≤ read_end P r → any (same_read r) rs ≡ asks r.reader
    pub later : (r : Read) → In r P.reads → t ≤ r.begun → any (same_read r) rs ≡ false
    pub lasting : (r : Read) → In r P.reads → suc r.begun < t → t ≤ read_end P r → live r.reader ≡ true
    pub began : (r : Read) → In r P.reads → suc r.begun ≡ t → live r.reader ≡ false
