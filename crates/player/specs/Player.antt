-- What playing and looking leave, for a plan that can be played.
use Rattle.std.specs.Prelude.{◌≡◌, List, ◌++◌, ℕ, suc, ◌*◌, ◌^◌, ◌<◌, length, drop, get_or}
use Rattle.register.specs.Lists.{In}
use Rattle.register.specs.Cluster.{cluster, server_of}
use Rattle.plan.specs.Packed.{plan_of}
use Rattle.calendar.specs.declared.Stamped.{Stamped}
use Rattle.limits.specs.Limits.{no_pair}
use Rattle.serving.specs.declared.Server.{Server}
use Rattle.serving.specs.Stored.{status_of}
use Rattle.stores.specs.Stores.{pairs_in}
use Rattle.calendar.specs.View.{Empty}
use Rattle.requests.specs.Requests.{SameBehind, Unasked}
use Rattle.cluster.specs.Tick.{Started}
use Rattle.script.specs.declared.Script.{Script}
use Rattle.ticking.specs.declared.Playing.{Playing}
use Rattle.answers.specs.Answers.{answer_size, answers_of}
use Rattle.answers.specs.Workspace.{zeroed}

pub record AllAnswered (w : ℕ) (s answers₀ answers₁ work₀ work₁ : List ℕ) : Type 0 where
  pub answers : answers₁ ≡ answers_of w s ++ drop (answer_size w * length (plan_of w s).reads) answers₀
  pub workspace : work₁ ≡ zeroed work₀

-- server b after tick t: its pairs stand in its store, with values of w bits
pub record Viewed (w : ℕ) (s : List ℕ) (b t : ℕ) (x : Server) (work₀ work₁ : List ℕ) : Type 0 where
  pub status : (server_of (cluster (plan_of w s) (suc t)) b).status ≡ status_of x.status
  pub kept : (server_of (cluster (plan_of w s) (suc t)) b).kept ≡ pairs_in w x.kept
  pub narrow : (p : Stamped) → In p x.kept → (p.number ≡ no_pair → ⊥) → p.value < 2 ^ w
  pub workspace : work₁ ≡ zeroed work₀

-- nothing is under way before the first tick
pub record Fresh (work₀ work₁ : List ℕ) (r : Script) (p : Playing) : Type 0 where
  pub kept : SameBehind work₀ work₁
  pub empty : Empty work₁
  pub unasked : Unasked work₁
  pub first : p ≡ record { cluster = p.cluster; written = 0; begun = 0; answered = 0; tick = 0 }
  pub started : Started (get_or r.writes.known.values 0 0) p.cluster
