-- Request Four over the step rules: a read that begins in the tick in which a write ends is owed that write's pair, and no older one is allowed.
-- It stands on the regular register and on point 3.
use mathlib.Core.Path.{◌≡◌}
use mathlib.Core.Bool.{Bool, false, not, ◌&&◌}
use mathlib.Core.Logic.{◌⊎◌, inl, inr}
use Prim.Native.Nat.{ℕ, ◌≤◌, ◌<◌}
use native.Mathlib.Omega.{arith}
use native.Mathlib.Decide.{dec_le}
use lib.Dec.{T, eqb, leb, eqb→eq, not_T}
use Rattle.register.specs.Lists.{any, In}
use Rattle.register.specs.Plan.{Write, Read, Plan, read_end, write_end}
use Rattle.register.specs.Regular.{finished, concurrent, last_finished, allowed}
use Rattle.register.specs.Promise.{OwedJustSet}
use Rattle.register.proofs.Logic.{and_l, and_r, or_e, F_eq}
use Rattle.register.proofs.Lists.{any_in}
use Rattle.register.proofs.Good.{Good, Enough}
use Rattle.register.proofs.Regular.{finished_by, unfinished_from, unfinished_above, last_cases}
use Rattle.register.proofs.Theorem.{served}

module _ (P : Plan) (G : Good P) (r : Read) where
  -- the write of a pair below the last finished one ended before the read's begin
  ended-earlier : (w : Write) → In w P.writes → w.pair < last_finished P r → write_end P w < r.begun
  ended-earlier w i h = elim (last_cases P r) [
    | inl e ↦ absurd (omega (arith, G.initial_least w i))
    | inr (v, j, e, f) ↦ omega (arith, G.rising w v i j (omega arith), finished_by P r v f)
  ]

  pub older_refused : (p : ℕ) → p < last_finished P r → allowed P r p ≡ false
  unfolding allowed concurrent
  older_refused p l = F_eq (allowed P r p) (not_T (allowed P r p) (λ t. go (or_e (eqb p (last_finished P r)) (any meant P.writes) t)))
    where
      meant : Write → Bool
      meant w = eqb w.pair p && concurrent P r w

      go : T (eqb p (last_finished P r)) ⊎ T (any meant P.writes) → ⊥
      go (inl h) = omega (arith, eqb→eq p (last_finished P r) h)
      go (inr h) =
          let (w, i, t) = any_in meant P.writes h in
          let e = eqb→eq w.pair p (and_l (eqb w.pair p) (concurrent P r w) t) in
          let n = and_l (not (finished P r w)) (leb w.begun (read_end P r)) (and_r (eqb w.pair p) (concurrent P r w) t) in
          omega (arith, ended-earlier w i (omega arith), unfinished_from P r w n)

  -- the write has finished, and no later one has
  pub last_just_set : (w : Write) → In w P.writes → write_end P w ≡ r.begun → last_finished P r ≡ w.pair
  last_just_set w i e = omega (arith, no_lower, no-higher)
    where
      no_lower : w.pair ≤ last_finished P r
      no_lower = elim (dec_le w.pair (last_finished P r)) [
        | yes h ↦ h
        | no h ↦ absurd (omega (arith, unfinished_from P r w (unfinished_above P r w i (omega arith))))
      ]

      no-higher : last_finished P r ≤ w.pair
      no-higher = elim (dec_le (last_finished P r) w.pair) [ yes h ↦ h | no h ↦ absurd (omega (arith, ended-earlier w i (omega arith))) ]

pub just_set_owed_lem : (P : Plan) → Good P → Enough P → (r : Read) → In r P.reads → (w : Write) → In w P.writes → write_end P w ≡ r.begun
    → OwedJustSet P r w
just_set_owed_lem P G E r ri w wi e =
    let q = last_just_set P G r w wi e in
    record { last = q; owed = rw q at (served P G E r ri).enough; older = λ p l. older_refused P G r p (omega arith) }
