-- What a plan has that Check accepts, apart from the bound on n: `Good`. The bound is `Enough`, a hypothesis of its own, since safety does
-- without it. It stands on the definitions alone; the two laws of k are here for all.
use mathlib.Core.Path.{◌≡◌, refl}
use mathlib.Core.Logic.{◌⊎◌, inl, inr}
use Prim.Native.Nat.{ℕ, ◌+◌, ◌*◌, ◌/◌, ◌≤◌, ◌<◌}
use native.Mathlib.Omega.{arith}
use lib.Dec.{T, leb, leb→le}
use Rattle.register.specs.Lists.{count, In}
use Rattle.register.specs.Plan.{Write, Read, Forgery, Plan, k_of, kk, read_end}
use Rattle.register.proofs.Logic.{cond_e}

pub record Good (P : Plan) : Type 0 where
  pub delta_pos : 1 ≤ P.delta
  pub delta_period : P.delta ≤ P.period
  pub deep : 3 ≤ P.depth
  -- a placement makes at most f servers faulty
  pub few : (i : ℕ) → count (λ b. P.placed i b) P.n ≤ P.f
  pub delay_lo : (t i j : ℕ) → 1 ≤ P.delay t i j
  pub delay_hi : (t i j : ℕ) → P.delay t i j ≤ P.delta
  -- the sender of a forged message is faulty after stage 3 of its tick
  pub forger : (g : Forgery) → In g P.forged → T (P.placed (g.at / P.period) g.from)
  pub forger_below : (g : Forgery) → In g P.forged → g.from < P.n
  -- the writer's numbers rise, and a write begins after the last one ended
  pub rising : (v w : Write) → In v P.writes → In w P.writes → v.pair < w.pair → v.begun + P.delta < w.begun
  pub initial_least : (w : Write) → In w P.writes → P.initial < w.pair
  -- a reader's next read begins after its last one ended
  pub apart : (q r : Read) → In q P.reads → In r P.reads → q.reader ≡ r.reader → q.begun < r.begun → read_end P q < r.begun

-- 'n below (k+3)f+1' is refused
abbrev pub Enough : Plan → Type 0
Enough P = (kk P + 3) * P.f + 1 ≤ P.n

pub k_cases : (P : Plan) → (kk P ≡ 1) ⊎ (kk P ≡ 2)
unfolding k_of
k_cases P = cond_e (λ (k : ℕ). (k ≡ 1) ⊎ (k ≡ 2)) (leb (2 * P.delta) P.period) 1 2 (λ t. inl refl) (λ t. inr refl)

pub k_pos : (P : Plan) → 1 ≤ kk P
k_pos P = elim (k_cases P) [ inl e ↦ omega arith | inr e ↦ omega arith ]

-- k periods cover two delays
pub k_covers : (P : Plan) → Good P → 2 * P.delta ≤ kk P * P.period
unfolding k_of
k_covers P G = cond_e (λ (k : ℕ). 2 * P.delta ≤ k * P.period) (leb (2 * P.delta) P.period) 1 2
    (λ t. omega (arith, leb→le (2 * P.delta) P.period t)) (λ t. omega (arith, G.delta_period))
