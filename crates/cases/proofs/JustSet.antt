-- What request Four adds to point 3 is not empty: its law speaks of the case beside the starred ones, a read that begins as a write ends.
use mathlib.Core.Path.{refl}
use mathlib.Core.Logic.{inl, inr}
use Rattle.register.specs.Plan.{stamped}
use Rattle.register.specs.Promise.{OwedJustSet}
use Rattle.plan.specs.Packed.{plan_of}
use Rattle.plan.specs.Check.{result}
use Rattle.results.proofs.PointThree.{just_set_owed}
use Rattle.cases.specs.Starred.{one_width, just_set, checks, Holds}
use Rattle.cases.proofs.Opened.{opened}
use Rattle.cases.proofs.Starred.{ended_as_begun_holds}

pub just_set_case : OwedJustSet (plan_of one_width just_set) (record { begun = 2; reader = 1 }) (record { begun = 0; pair = stamped one_width 100 1 })
unfolding opened Holds
just_set_case = just_set_owed one_width just_set 1 (ended_as_begun_holds (checks just_set (result 1)) (inr (inl refl))) (record { begun = 2; reader = 1 }) (inl refl)
    (record { begun = 0; pair = stamped one_width 100 1 }) (inl refl) refl
