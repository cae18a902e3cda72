-- The pair that a reader chooses, from the sets of servers that named each known pair.
use Rattle.std.specs.Prelude.{Bool, cond, ℕ, zero, suc, leb, Option, Some, None}
use Rattle.register.specs.Lists.{count}
use Rattle.register.specs.Reading.{Answer}
use Rattle.reading.specs.declared.Choice.{Choice}

-- of the pairs below m, the highest that `reply` servers named, with how many they are; `named j i`: server i named pair j
unfoldable pub highest_of : (ℕ → ℕ → Bool) → ℕ → ℕ → Option Choice
highest_of named reply zero = None
highest_of named reply (suc j) =
    let c : ℕ = count (named j) 16 in
    cond (leb reply c) (Some (record { number = j; count = c })) (highest_of named reply j)

-- the answer that a choice stands for, where pair j is g j; 0, 0, 0 where there is none
unfoldable pub answer_by : (ℕ → ℕ) → Option Choice → Answer
answer_by g None = record { pair = 0; count = 0 }
answer_by g (Some c) = record { pair = g c.number; count = c.count }
