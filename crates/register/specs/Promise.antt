-- What point 3 promises of one read, and what request Four adds to it.
use Rattle.std.specs.Prelude.{◌≡◌, true, false, ℕ, ◌+◌, ◌*◌, ◌≤◌, ◌<◌}
use Rattle.register.specs.Plan.{Plan, Write, Read, kk, read_end, reply_quorum}
use Rattle.register.specs.Reading.{count_of, answer_of}
use Rattle.register.specs.Regular.{last_finished, allowed, has_begun}

pub record Served (P : Plan) (r : Read) : Type 0 where
  -- the last finished pair reaches (k+1)f+1 by the read's end
  pub enough : reply_quorum P ≤ count_of P r (last_finished P r)
  -- every pair whose writing hasn't begun by then stays at (k+1)f or less
  pub few : (p : ℕ) → has_begun P (read_end P r) p ≡ false → count_of P r p ≤ (kk P + 1) * P.f
  -- the answer's count is the count of its pair, and (k+1)f+1 or more
  pub counted : (answer_of P r).count ≡ count_of P r (answer_of P r).pair
  pub answered : reply_quorum P ≤ (answer_of P r).count
  -- the regular register allows the answer
  pub regular : allowed P r (answer_of P r).pair ≡ true

-- What a read that begins in the tick in which write w ends is owed.
pub record OwedJustSet (P : Plan) (r : Read) (w : Write) : Type 0 where
  pub last : last_finished P r ≡ w.pair
  -- Four: 'A screen that reads in that very tick is owed the cue just set, with the same count of boxes behind it.'
  pub owed : reply_quorum P ≤ count_of P r w.pair
  -- Four: 'Judge becomes stricter'
  pub older : (p : ℕ) → p < w.pair → allowed P r p ≡ false
