-- Document 01's reading of the regular register, which request Four changed: 'Document 01 takes such a write as concurrent.' Nothing is judged by it.
use Rattle.std.specs.Prelude.{◌≡◌, Bool, true, false, not, ◌&&◌, ◌||◌, map, ℕ, leb, ltb, eqb}
use Rattle.register.specs.Lists.{any, filter, highest, In}
use Rattle.register.specs.Plan.{Plan, Write, Read, read_end, write_end}
use Rattle.register.specs.Regular.{last_finished, allowed}

module _ (P : Plan) where
  -- 'A write finished before a read if its end is a smaller tick than the read's begin.'
  unfoldable pub finished01 : Read → Write → Bool
  finished01 r w = ltb (write_end P w) r.begun

  unfoldable pub concurrent01 : Read → Write → Bool
  concurrent01 r w = not (finished01 r w) && leb w.begun (read_end P r)

  unfoldable pub last_finished01 : Read → ℕ
  last_finished01 r = highest P.initial (map (λ (w : Write). w.pair) (filter (finished01 r) P.writes))

  unfoldable pub allowed01 : Read → ℕ → Bool
  allowed01 r p = eqb p (last_finished01 r) || any (λ w. eqb w.pair p && concurrent01 r w) P.writes

-- Four: 'Judge becomes stricter'.
pub record Stricter (P : Plan) (r : Read) : Type 0 where
  -- what is allowed now was allowed before
  pub kept : (p : ℕ) → allowed P r p ≡ true → allowed01 P r p ≡ true
  -- An answer is lost only where a write ends in the tick in which the read begins; it is the pair that was the last finished one before, and that
  -- write's is it now.
  pub lost : (p : ℕ) → allowed P r p ≡ false → allowed01 P r p ≡ true
      → (p ≡ last_finished01 P r) × ((w : Write) × In w P.writes × (write_end P w ≡ r.begun) × (last_finished P r ≡ w.pair))
  -- where no write ends so, nothing changes
  pub same : ((w : Write) → In w P.writes → write_end P w ≡ r.begun → ⊥) → (p : ℕ) → allowed P r p ≡ allowed01 P r p
