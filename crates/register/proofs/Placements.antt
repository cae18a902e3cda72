-- Placements and periods: which placement is in force in a tick, and how many servers are faulty in a row of placements (at most (m + 1) f
-- in m + 1 of them). It stands on Good and Counting.
use mathlib.Core.Path.{◌≡◌}
use mathlib.Core.Bool.{Bool, not, ◌||◌}
use mathlib.Core.Logic.{◌≢◌}
use Prim.Native.Nat.{ℕ, zero, suc, ◌+◌, ◌*◌, ◌-◌, ◌/◌, ◌%◌, ◌≤◌, ◌<◌}
use native.Mathlib.Nat.{le-div_iff_mul-le, div-lt_iff_lt-mul, div-mul-le_self, lt-div-mul-add, div-add-mod', mul-mod_left, add-mul-div_right}
use native.Mathlib.Omega.{arith}
use native.Mathlib.Decide.{dec_le}
use lib.Dec.{T, eqb→eq, T_not, not_T}
use Rattle.register.specs.Lists.{count}
use Rattle.register.specs.Plan.{Plan, kk, is_move}
use Rattle.register.proofs.Logic.{or_e, or_l, or_r}
use Rattle.register.proofs.Counting.{count_or, count_not}
use Rattle.register.proofs.Good.{Good, k_covers}

-- server b is faulty in one of the placements c - m .. c
abbrev pub Near : Plan → ℕ → ℕ → ℕ → Type 0
Near P c m b = (j : ℕ) × (j ≤ c) × (c ≤ j + m) × T (P.placed j b)

unfoldable pub near : Plan → ℕ → ℕ → ℕ → Bool
near P c zero b = P.placed c b
near P c (suc m) b = P.placed (c - suc m) b || near P c m b

pub near_in : (P : Plan) (c m b : ℕ) → Near P c m b → T (near P c m b)
unfolding near
near_in P c zero b (j, l, u, h) = let e : j ≡ c = omega arith in rw e at h
near_in P c (suc m) b (j, l, u, h) = go (dec_le c (j + m)) (λ v. near_in P c m b (j, l, v, h))
  where
    go : Dec (c ≤ j + m) → (c ≤ j + m → T (near P c m b)) → T (P.placed (c - suc m) b || near P c m b)
    go (yes v) ih = or_r (P.placed (c - suc m) b) (near P c m b) (ih v)
    go (no v) ih = let e : j ≡ c - suc m = omega arith in or_l (P.placed (c - suc m) b) (near P c m b) (rw e at h)

-- a server outside them is faulty in none
pub outside : (P : Plan) (c m b j : ℕ) → T (not (near P c m b)) → j ≤ c → c ≤ j + m → T (not (P.placed j b))
outside P c m b j h a z = not_T (P.placed j b) (λ k. T_not (near P c m b) h (near_in P c m b (j, a, z, k)))

-- server b is faulty after none of the ticks m .. t - 1
abbrev pub FreeSince : Plan → ℕ → ℕ → ℕ → Type 0
FreeSince P b m t = (v : ℕ) → m ≤ v → v < t → T (not (P.placed (v / P.period) b))

-- a tick without a movement, and one with
pub not_moving : (P : Plan) (t : ℕ) → T (not (is_move P t)) → t % P.period ≢ 0
unfolding is_move
not_moving P t h e = T_not (is_move P t) h (rw e tt)

pub moving : (P : Plan) (t : ℕ) → T (is_move P t) → t % P.period ≡ 0
unfolding is_move
moving P t h = eqb→eq (t % P.period) 0 h

pub is_move_lem : (P : Plan) (i : ℕ) → T (is_move P (i * P.period))
unfolding is_move
is_move_lem P i = rw (mul-mod_left i P.period) tt

module _ (P : Plan) (G : Good P) where
  pub near_few : (c m : ℕ) → count (near P c m) P.n ≤ (m + 1) * P.f
  unfolding near
  near_few c zero = omega (arith, G.few c)
  near_few c (suc m) =
      omega (
        arith,
        near_few c m,
        G.few (c - suc m),
        count_or (λ b. near P c (suc m) b) (λ b. P.placed (c - suc m) b) (λ b. near P c m b) P.n
            (λ i l t. or_e (P.placed (c - suc m) i) (near P c m i) t),
      )

  pub many_outside : (c m : ℕ) → P.n ≤ count (λ b. not (near P c m b)) P.n + (m + 1) * P.f
  many_outside c m = omega (arith, count_not (near P c m) P.n, near_few c m)

  pub period_pos : 0 < P.period
  period_pos = omega (arith, G.delta_pos, G.delta_period)

  -- the period of a tick, from bounds on the tick
  pub period_lo : (i x : ℕ) → i * P.period ≤ x → i ≤ x / P.period
  period_lo i x h = (le-div_iff_mul-le {x = i} {y = x} period_pos).1 h

  pub period_hi : (i x : ℕ) → x < i * P.period → x / P.period < i
  period_hi i x h = (div-lt_iff_lt-mul {x = x} {y = i} period_pos).1 h

  pub period_is : (i x : ℕ) → i * P.period ≤ x → x < i * P.period + P.period → x / P.period ≡ i
  period_is i x h g = let a = period_lo i x h in let b = period_hi (i + 1) x (omega arith) in omega arith

  pub period_near : (i x e : ℕ) → i * P.period ≤ x + e * P.period → i ≤ x / P.period + e
  period_near i x e h = rw (add-mul-div_right x e period_pos) at (period_lo i (x + e * P.period) h)

  pub period_mono : (x y : ℕ) → x ≤ y → x / P.period ≤ y / P.period
  period_mono x y h = period_lo (x / P.period) y (omega (arith, div-mul-le_self x P.period))

  -- a message sent in tick u arrives in tick t, whose deliveries stand in the period of placement (t - 1) / period
  pub sent_near : (t u : ℕ) → u < t → t ≤ u + P.delta → (u / P.period ≤ (t - 1) / P.period) × ((t - 1) / P.period ≤ u / P.period + 1)
  sent_near t u l h =
      let b = lt-div-mul-add {a = u} period_pos in
      let g = G.delta_period in
      let q = period_hi (u / P.period + 2) (t - 1) (omega arith) in
      (period_mono u (t - 1) (omega arith), omega arith)

  -- the ticks r .. r + 2 delta - 1 lie in k + 1 placements
  pub read_near : (r u : ℕ) → r ≤ u → u < r + 2 * P.delta
      → (u / P.period ≤ (r + 2 * P.delta - 1) / P.period) × ((r + 2 * P.delta - 1) / P.period ≤ u / P.period + kk P)
  read_near r u l h =
      let b = lt-div-mul-add {a = u} period_pos in
      let k = k_covers P G in
      let q = period_hi (u / P.period + kk P + 1) (r + 2 * P.delta - 1) (omega arith) in
      (period_mono u (r + 2 * P.delta - 1) (omega arith), omega arith)

  -- the period of the deliveries of tick t, and the placement after its stage 3
  pub period_step : (t : ℕ) → ((t - 1) / P.period ≤ t / P.period) × (t / P.period ≤ (t - 1) / P.period + 1)
      × (t % P.period ≢ 0 → t / P.period ≡ (t - 1) / P.period)
  period_step t =
      let D = period_pos in
      let a = div-mul-le_self t P.period in
      let b' = lt-div-mul-add {a = t - 1} D in
      let m = div-add-mod' t P.period in
      let up = period_mono (t - 1) t (omega arith) in
      let q = period_hi ((t - 1) / P.period + 2) t (omega arith) in
      (up, omega arith, (λ h. let q : t / P.period ≤ (t - 1) / P.period = period_lo (t / P.period) (t - 1) (omega arith) in omega arith))

  -- the same for tick suc t
  pub period_suc : (t : ℕ) → (suc t % P.period ≢ 0 → suc t / P.period ≡ t / P.period)
      × (suc t % P.period ≡ 0 → (suc t / P.period ≡ t / P.period + 1) × (suc t ≡ (suc t / P.period) * P.period))
  period_suc t =
      let e : suc t - 1 ≡ t = omega arith in
      let s = rw e at (period_step (suc t)) in
      let m = div-add-mod' (suc t) P.period in (
        s.2,
        (λ z. let f : suc t / P.period * P.period ≡ suc t = omega arith in
            let q : t / P.period < suc t / P.period = period_hi (suc t / P.period) t (omega arith) in
            (omega (arith, s.1), omega arith)),
      )
