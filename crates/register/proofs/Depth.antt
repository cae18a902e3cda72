-- What a read is owed is the same at every depth from 3 on: the theorem of point 3 asks no more of the depth.
use mathlib.Core.Path.{refl}
use Prim.Native.Nat.{ℕ, ◌≤◌}
use Rattle.register.specs.Lists.{In}
use Rattle.register.specs.Plan.{Plan, Read}
use Rattle.register.specs.Regular.{finished, concurrent, last_finished, allowed, has_begun}
use Rattle.register.specs.Depth.{at_depth, OwedAlike}
use Rattle.register.proofs.Good.{Good, Enough}
use Rattle.register.proofs.Theorem.{served}

module _ (P : Plan) (G : Good P) (depth : ℕ) (deep : 3 ≤ depth) where
  -- what the theorem asks of a plan, it has at this depth too
  pub good_at_depth : Good (at_depth depth P)
  good_at_depth = record {
    delta_pos = G.delta_pos;
    delta_period = G.delta_period;
    deep = deep;
    few = G.few;
    delay_lo = G.delay_lo;
    delay_hi = G.delay_hi;
    forger = G.forger;
    forger_below = G.forger_below;
    rising = G.rising;
    initial_least = G.initial_least;
    apart = G.apart;
  }

  pub owed_alike : Enough P → (r : Read) → In r P.reads → OwedAlike P (at_depth depth P) r
  unfolding finished concurrent last_finished allowed has_begun
  owed_alike E r i = record {
    served = served (at_depth depth P) good_at_depth E r i;
    last = refl;
    quorum = refl;
    begun = λ p. refl;
    allowed = λ p. refl;
  }
