-- What is under way before a tick, by the step rules alone: the log has what was sent in the ticks before t.
use Rattle.std.specs.Prelude.{Bool, not, ◌&&◌, ◌||◌, ℕ, ◌+◌, eqb, leb, ltb}
use Rattle.register.specs.Lists.{any, any_up_to, member}
use Rattle.register.specs.Plan.{Plan, Read, Forgery, read_end}
use Rattle.register.specs.Cluster.{Log, sent_in}
use Rattle.register.specs.Reading.{same_read}

module _ (P : Plan) where
  -- the forged message x names pair p, comes from server i, goes to party q and arrives in tick s
  abbrev pub forged_as : ℕ → ℕ → ℕ → ℕ → Forgery → Bool
  forged_as s q p i x =
      eqb x.to q && (eqb (x.at + P.delay x.at x.from x.to) s && (eqb x.pair p && eqb x.from i))

  module _ (log : Log) (t : ℕ) where
    -- server i's vote for pair p, sent in tick u, arrives at server b in tick s
    abbrev pub vote_from : ℕ → ℕ → ℕ → ℕ → ℕ → Bool
    vote_from u s b p i = (not (eqb i b) && eqb (u + P.delay u i b) s) && member p (sent_in log u i).votes

    -- a vote of server i for pair p, sent before tick t, forged or not, arrives at server b in tick s
    unfoldable pub vote_way : ℕ → ℕ → ℕ → ℕ → Bool
    vote_way s b p i = any_up_to t (λ u. vote_from u s b p i) || any (λ (x : Forgery). ltb x.at t && forged_as s b p i x) P.forged

    -- server i's reply to read r that names pair p, sent in tick u, arrives in tick s
    abbrev pub reply_from : Read → ℕ → ℕ → ℕ → ℕ → Bool
    reply_from r u s p i =
        (any (same_read r) (sent_in log u i).reply_to && eqb (u + P.delay u i (P.n + r.reader)) s) && member p (sent_in log u i).reply_with

    -- a reply of server i to read r that names pair p, sent before tick t, forged or not, arrives in tick s, by the read's end
    unfoldable pub reply_way : Read → ℕ → ℕ → ℕ → Bool
    reply_way r s p i =
        leb s (read_end P r)
        && (any_up_to t (λ u. reply_from r u s p i)
        || any (λ (x : Forgery). leb r.begun x.at && (ltb x.at t && forged_as s (P.n + r.reader) p i x)) P.forged)

    -- the same has arrived before tick t
    unfoldable pub heard_way : Read → ℕ → ℕ → Bool
    heard_way r p i = any_up_to t (λ s. reply_way r s p i)
