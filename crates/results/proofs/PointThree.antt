-- Point 3, whole: every plan that Check accepts has it, at every width; what request Four adds for the cue just set; and that what is owed is the same at
-- every depth from 3 on.
-- It composes the register's theorems, what Check accepts and Judge's yes, and argues nothing else.
use mathlib.Core.Path.{◌≡◌}
use mathlib.Core.List.{List}
use Prim.Native.Nat.{ℕ, ◌≤◌}
use Rattle.register.specs.Lists.{In}
use Rattle.register.specs.Plan.{Write, Read, write_end}
use Rattle.register.specs.Promise.{Served, OwedJustSet}
use Rattle.register.specs.Depth.{at_depth, OwedAlike}
use Rattle.register.proofs.Theorem.{served}
use Rattle.register.proofs.JustSet.{just_set_owed_lem}
use Rattle.register.proofs.Depth.{owed_alike}
use Rattle.plan.specs.Packed.{plan_of}
use Rattle.plan.specs.Check.{result, check_of}
use Rattle.plan.proofs.Accept.{Accepted, accepted, enough}
use Rattle.plan.proofs.AcceptGood.{good}
use Rattle.results.specs.PointThree.{PointThree}
use Rattle.results.proofs.Judged.{judge_yes}
use Rattle.results.proofs.Played.{play_writes}

pub point_three : (w : ℕ) (s : List ℕ) (m : ℕ) → check_of w s ≡ result m → PointThree w s
point_three w s m e =
    let A : Accepted w s = accepted w s m e in
    let all : (r : Read) → In r (plan_of w s).reads → Served (plan_of w s) r = λ r i. served (plan_of w s) (good w s A.playable) (enough w s A) r i in
    record { served = all; judged = λ answers workspace k h. rw (play_writes w s A answers workspace k h) (judge_yes w s A all) }

pub just_set_owed : (w : ℕ) (s : List ℕ) (m : ℕ) → check_of w s ≡ result m → (r : Read) → In r (plan_of w s).reads
    → (u : Write) → In u (plan_of w s).writes → write_end (plan_of w s) u ≡ r.begun → OwedJustSet (plan_of w s) r u
just_set_owed w s m e =
    let A : Accepted w s = accepted w s m e in
    just_set_owed_lem (plan_of w s) (good w s A.playable) (enough w s A)

pub owed_at_depth : (w : ℕ) (s : List ℕ) (m : ℕ) → check_of w s ≡ result m → (depth : ℕ) → 3 ≤ depth → (r : Read) → In r (plan_of w s).reads
    → OwedAlike (plan_of w s) (at_depth depth (plan_of w s)) r
owed_at_depth w s m e depth deep =
    let A : Accepted w s = accepted w s m e in
    owed_alike (plan_of w s) (good w s A.playable) depth deep (enough w s A)
