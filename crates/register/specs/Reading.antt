-- The replies to a read, the count of a pair in it, and its answer (document 01, stage 4 and 'Words of point 3').
use Rattle.std.specs.Prelude.{Bool, ◌&&◌, cond, List, [], ◌∷◌, ◌++◌, map, ℕ, ◌+◌, leb, eqb}
use Rattle.register.specs.Lists.{count, any, filter, flat, highest}
use Rattle.register.specs.Plan.{Plan, Read, Forgery, read_end, reply_quorum}
use Rattle.register.specs.Server.{Claim, claim_of, has, pairs_of}
use Rattle.register.specs.Cluster.{Log, sent_in, cluster}

unfoldable pub same_read : Read → Read → Bool
same_read r q = eqb r.begun q.begun && eqb r.reader q.reader

-- the reply to the read that server i sent in tick u, if it arrives by the read's end. 'An answer names its read; one arriving after the
-- read's end has no effect.'
unfoldable pub reply_from : Plan → Log → Read → ℕ → ℕ → List Claim
reply_from P log r u i =
    cond (any (same_read r) (sent_in log u i).reply_to && leb (u + P.delay u i (P.n + r.reader)) (read_end P r))
    (map (claim_of i) (sent_in log u i).reply_with)
    []

-- the forged replies to the read: sent while it is open, and arriving by its end
unfoldable pub forged_to : Plan → Read → List Claim
forged_to P r =
    map (λ (g : Forgery). claim_of g.from g.pair)
    (filter (λ g. eqb g.to (P.n + r.reader)
    && (leb r.begun g.at && leb (g.at + P.delay g.at g.from g.to) (read_end P r))) P.forged)

-- 'Screens note answers to their open read.'
unfoldable pub noted : Plan → Log → Read → List Claim
noted P log r = flat (read_end P r) (λ u. flat P.n (λ i. reply_from P log r u i)) ++ forged_to P r

-- all that was noted by the read's end, 'the deliveries of the end's tick included'
unfoldable pub noted_by : Plan → Read → List Claim
noted_by P r = noted P (cluster P (read_end P r)).log r

-- how many different servers named p
unfoldable pub count_naming : Plan → List Claim → ℕ → ℕ
count_naming P cs p = count (λ i. has cs p i) P.n

-- 'The count of a pair in a read is how many different boxes, held ones among them, have had an answer to that read naming the pair
-- arrive by that end'
abbrev pub count_of : Plan → Read → ℕ → ℕ
count_of P r p = count_naming P (noted_by P r) p

pub record Answer : Type 0 where
  pub pair : ℕ
  pub count : ℕ

-- of the pairs that reach the needed count, the highest; 0, 0, 0 where there is none
unfoldable pub best : Plan → List Claim → List ℕ → Answer
best P cs [] = record { pair = 0; count = 0 }
best P cs (p ∷ ps) = let top : ℕ = highest p ps in record { pair = top; count = count_naming P cs top }

-- 'Its answer is the pair of highest number (equal: higher cue) named by (k+1)f+1 different boxes; the answer's count is how many named it.'
unfoldable pub answer_from : Plan → List Claim → Answer
answer_from P cs = best P cs (filter (λ p. leb (reply_quorum P) (count_naming P cs p)) (pairs_of cs))

abbrev pub answer_of : Plan → Read → Answer
answer_of P r = answer_from P (noted_by P r)
