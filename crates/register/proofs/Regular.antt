-- The regular register: a genuine pair no lower than the last finished one is allowed, and the last finished pair is recent when the read's
-- replies are sent. What 'finished' means enters by two laws alone. It stands on Genuine and Keeping's Recent.
use mathlib.Core.Path.{◌≡◌, refl}
use mathlib.Core.Bool.{Bool, not, ◌&&◌, ◌||◌}
use mathlib.Core.Logic.{◌⊎◌, inl, inr}
use mathlib.Core.List.{List, [], ◌∷◌, map}
use Prim.Native.Nat.{ℕ, ◌+◌, ◌≤◌, ◌<◌}
use native.Mathlib.Omega.{arith}
use native.Mathlib.Decide.{ℕ_discrete}
use lib.Dec.{T, eqb, eqb_refl, leb→le, le→leb, nleb→lt, not_T}
use lib.ListN.{length}
use Rattle.register.specs.Lists.{any, filter, In}
use Rattle.register.specs.Plan.{Write, Read, Plan, read_end, write_end}
use Rattle.register.specs.Regular.{finished, concurrent, last_finished, allowed}
use Rattle.register.proofs.Logic.{and_i, or_l, or_r}
use Rattle.register.proofs.Lists.{in_filter, filter_in, in_any, in_map, map_in, highest_in, highest_le, highest_all}
use Rattle.register.proofs.Good.{Good}
use Rattle.register.proofs.Genuine.{Genuine, genuine_above}
use Rattle.register.proofs.Stores.{Falling}
use Rattle.register.proofs.Keeping.{Recent}

module _ (P : Plan) (r : Read) where
  -- the two laws of 'finished before'
  pub finished_by : (w : Write) → T (finished P r w) → w.begun + P.delta ≤ r.begun
  unfolding finished
  finished_by w h = leb→le (write_end P w) r.begun h

  pub unfinished_from : (w : Write) → T (not (finished P r w)) → r.begun < w.begun + P.delta
  unfolding finished
  unfinished_from w h = nleb→lt (write_end P w) r.begun h

  pub last_cases : (last_finished P r ≡ P.initial) ⊎ ((w : Write) × In w P.writes × (last_finished P r ≡ w.pair) × T (finished P r w))
  unfolding last_finished
  last_cases = elim (highest_in P.initial (map (λ (w : Write). w.pair) (filter (finished P r) P.writes))) [
    | inl e ↦ inl e
    | inr i ↦ (let m = in_map (λ (w : Write). w.pair) _ (filter (finished P r) P.writes) i in
        let f = in_filter (finished P r) m.0 P.writes m.1 in
        inr (m.0, f.0, m.2, f.1))
  ]

  pub initial_le_last : P.initial ≤ last_finished P r
  unfolding last_finished
  initial_le_last = highest_le P.initial _

  -- a write above the last finished pair has not finished
  pub unfinished_above : (w : Write) → In w P.writes → last_finished P r < w.pair → T (not (finished P r w))
  unfolding last_finished
  unfinished_above w i h = not_T (finished P r w) (λ t. let l = no-higher t in omega arith)
    where
      no-higher : T (finished P r w) → w.pair ≤ last_finished P r
      no-higher t = highest_all P.initial (map (λ (w : Write). w.pair) (filter (finished P r) P.writes)) w.pair
          (map_in (λ (w : Write). w.pair) w (filter (finished P r) P.writes) (filter_in (finished P r) w P.writes i t))

  -- a pair no lower than the last finished one that has begun by the read's end is allowed
  pub genuine_allowed : (p : ℕ) → last_finished P r ≤ p → Genuine P (read_end P r) p → T (allowed P r p)
  unfolding allowed concurrent
  genuine_allowed p le g = go (ℕ_discrete p (last_finished P r))
    where
      meant : Write → Bool
      meant w = eqb w.pair p && concurrent P r w

      at_once : last_finished P r < p → T (any meant P.writes)
      at_once h =
          let (w, i, e, l) = genuine_above P (read_end P r) (last_finished P r) p initial_le_last g h in
          in_any meant w P.writes i (and_i (eqb w.pair p) _ (rw e (eqb_refl p))
          (and_i (not (finished P r w)) _ (unfinished_above w i (omega arith)) (le→leb w.begun (read_end P r) (omega arith))))

      go : Dec (p ≡ last_finished P r) → T (eqb p (last_finished P r) || any meant P.writes)
      go (yes e) = or_l (eqb p (last_finished P r)) (any meant P.writes) (rw e (eqb_refl (last_finished P r)))
      go (no n) = or_r (eqb p (last_finished P r)) (any meant P.writes) (at_once (omega arith))

  -- at most two writes above the last finished one have begun delta after the read's begin, so it is recent
  pub last_recent : Good P → Recent P (r.begun + P.delta) (last_finished P r)
  last_recent G l d g = short l d (λ q i. above q (g q i).0 (g q i).1)
    where
      By : ℕ → Type 0
      By q = (w : Write) × In w P.writes × (w.pair ≡ q) × (w.begun < r.begun + P.delta) × (r.begun < w.begun + P.delta)

      above : (q : ℕ) → Genuine P (r.begun + P.delta) q → last_finished P r < q → By q
      above q g h =
          let (w, i, e, b) = genuine_above P (r.begun + P.delta) (last_finished P r) q initial_le_last g h in
          (w, i, e, b, unfinished_from w (unfinished_above w i (omega arith)))

      short : (l : List ℕ) → Falling l → ((q : ℕ) → In q l → By q) → length l < P.depth
      short [] d f = omega (arith, G.deep)
      short (a ∷ []) d f = omega (arith, G.deep)
      short (a ∷ b ∷ []) d f = omega (arith, G.deep)
      short (a ∷ b ∷ c ∷ l) d f =
          let (wa, ia, ea, before-a, after-a) = f a (inl refl) in
          let (wb, ib, eb, before-b, after-b) = f b (inr (inl refl)) in
          let (wc, ic, ec, before-c, after-c) = f c (inr (inr (inl refl))) in
          let x : c < b = d.1.0 c (inl refl) in
          let y : b < a = d.0 b (inl refl) in
          let u = G.rising wc wb ic ib (omega arith) in
          let v = G.rising wb wa ib ia (omega arith) in
          absurd (omega arith)
