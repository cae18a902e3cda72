-- The plan that packed bytes say.
use Rattle.std.specs.Prelude.{◌&&◌, cond, List, ℕ, ◌*◌, ltb}
use Rattle.register.specs.Lists.{tab}
use Rattle.register.specs.Plan.{Plan, stamped}
use Rattle.plan.specs.Header.{Header, header_of, parties}
use Rattle.plan.specs.Parts.{Operation, in_placement, operations_of, forgery_of, delay_of, is_link, writes_from, reads_from}

-- Eight: 'A box keeps at most five pairs, and echoes, answers and Look carry up to five.'
abbrev pub store_depth : ℕ
store_depth = 5

-- Outside the tables, which no tick below H reads, nobody is faulty and a delay is 1.
unfoldable pub plan_of : ℕ → List ℕ → Plan
plan_of w s =
    let h : Header = header_of w s in
    let os : List Operation = operations_of w s h in
    record {
      n = h.n;
      f = h.f;
      delta = h.delta;
      period = h.period;
      depth = store_depth;
      initial = stamped w h.initial 0;
      placed = λ i b. ltb (i * h.period) h.ticks && (ltb b h.n && in_placement w s h i b);
      writes = writes_from w 1 os;
      reads = reads_from os;
      forged = tab h.forgeries (forgery_of w s h);
      delay = λ t i j. cond (ltb t h.ticks && (ltb i (parties h) && (ltb j (parties h) && is_link h.n i j))) (delay_of w s h t i j) 1;
    }
