-- A plan with stores of another depth, and what a read is owed at it (document 02, 'Eight').
use Rattle.std.specs.Prelude.{◌≡◌, ℕ}
use Rattle.register.specs.Plan.{Plan, Read, read_end, reply_quorum}
use Rattle.register.specs.Regular.{last_finished, has_begun}
use Rattle.register.specs.Regular as regular
use Rattle.register.specs.Promise.{Served}

-- the plan with stores of so many pairs; all else is as it was
abbrev pub at_depth : ℕ → Plan → Plan
at_depth depth P = record {
  n = P.n;
  f = P.f;
  delta = P.delta;
  period = P.period;
  depth = depth;
  initial = P.initial;
  placed = P.placed;
  writes = P.writes;
  reads = P.reads;
  forged = P.forged;
  delay = P.delay;
}

-- Eight: 'What a screen is owed doesn't change with the deeper store.' Q is P at another depth: the read gets what it is owed, and that is the same
-- pair, the same count, the same bound on the pairs not begun, and the same choice of answers.
pub record OwedAlike (P Q : Plan) (r : Read) : Type 0 where
  pub served : Served Q r
  pub last : last_finished Q r ≡ last_finished P r
  pub quorum : reply_quorum Q ≡ reply_quorum P
  pub begun : (p : ℕ) → has_begun Q (read_end Q r) p ≡ has_begun P (read_end P r) p
  pub allowed : (p : ℕ) → regular.allowed Q r p ≡ regular.allowed P r p
