-- The regular register (document 01, after the stages, and 'Words of point 3'; document 02, 'Four').
use Rattle.std.specs.Prelude.{Bool, not, ◌&&◌, ◌||◌, map, ℕ, leb, ltb, eqb, length}
use Rattle.register.specs.Lists.{any, filter, highest}
use Rattle.register.specs.Plan.{Plan, Write, Read, read_end, write_end}

module _ (P : Plan) where
  -- Four: 'a write finished before a read if its end is at or below the read's begin'
  unfoldable pub finished : Read → Write → Bool
  finished r w = leb (write_end P w) r.begun

  -- 'It is concurrent if it neither finished before the read nor began after the read's end.'
  unfoldable pub concurrent : Read → Write → Bool
  concurrent r w = not (finished r w) && leb w.begun (read_end P r)

  -- 'A read's last finished cue is the pair of highest number among the start pair and the writes finished before the read.'
  unfoldable pub last_finished : Read → ℕ
  last_finished r = highest P.initial (map (λ (w : Write). w.pair) (filter (finished r) P.writes))

  -- the last finished pair or that of a concurrent write: what Judge says yes to
  unfoldable pub allowed : Read → ℕ → Bool
  allowed r p = eqb p (last_finished r) || any (λ w. eqb w.pair p && concurrent r w) P.writes

  -- the start pair, or one whose writing began at a smaller tick than t. 'hasn't begun by a read's end if they aren't the start pair and the
  -- desk begins no write of that cue and number at a smaller tick than that end'
  unfoldable pub has_begun : ℕ → ℕ → Bool
  has_begun t p = eqb p P.initial || any (λ w. eqb w.pair p && ltb w.begun t) P.writes

  -- how many writes of a higher number began at a smaller tick than t
  unfoldable pub later_begun : ℕ → ℕ → ℕ
  later_begun t p = length (filter (λ (w : Write). ltb p w.pair && ltb w.begun t) P.writes)
