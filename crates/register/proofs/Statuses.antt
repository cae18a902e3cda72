-- Status: which servers are faulty, cured or correct follows from the placements alone. A server is faulty as placed, cured for delta ticks
-- after a placement it has left, and otherwise correct. It stands on Stages and Placements.
use mathlib.Core.Path.{◌≡◌, refl, sym}
use mathlib.Core.Bool.{Bool, true, false, not, cond}
use mathlib.Core.Logic.{◌≢◌}
use Prim.Native.Nat.{ℕ, zero, suc, ◌+◌, ◌*◌, ◌-◌, ◌/◌, ◌≤◌, ◌<◌}
use native.Mathlib.Nat.{zero-div, zero-mod}
use native.Mathlib.Omega.{arith}
use lib.Dec.{T, eqb, eqb→eq, eqb_refl, T_not}
use Rattle.register.specs.Plan.{Plan, is_move}
use Rattle.register.specs.Server.{Status, faulty, cured, correct, is_faulty, is_correct, cured_at, Server}
use Rattle.register.proofs.Logic.{T_eq, F_eq, cond_e}
use Rattle.register.proofs.Good.{Good}
use Rattle.register.proofs.Placements.{not_moving, moving, period_suc}
use Rattle.register.proofs.Trace.{before, mid, before_zero, before_suc}
use Rattle.register.proofs.Stages.{mid_status, end_server, moved_status}

-- the status of server b after stage 2 of tick t in the period of placement c, or after tick t, c the placement then
unfoldable pub StatusIs : Plan → ℕ → ℕ → ℕ → Status → Type 0
StatusIs P c t b faulty = T (P.placed c b)
StatusIs P c t b (cured m) = T (not (P.placed c b)) × (m ≡ c * P.period) × (t < m + P.delta) × T (P.placed (c - 1) b) × (1 ≤ c)
StatusIs P c t b correct = T (not (P.placed c b)) × (1 ≤ c → T (P.placed (c - 1) b) → c * P.period + P.delta ≤ t)

-- if server b left the placement before, its cure is over after stage 2 of tick t + 1
abbrev pub CureOver : Plan → ℕ → ℕ → Type 0
CureOver P t b = 1 ≤ t / P.period → T (P.placed (t / P.period - 1) b) → t / P.period * P.period + P.delta ≤ suc t

module _ (P : Plan) (G : Good P) where
  cure : (c t b : ℕ) (s : Status) → StatusIs P c t b s → StatusIs P c (suc t) b (cond (cured_at P.delta (suc t) s) correct s)
  unfolding StatusIs
  cure c t b faulty h = h
  cure c t b correct h = (h.0, λ a k. omega (arith, h.1 a k))
  cure c t b (cured m) (a, e, l, k, o) = go (eqb (m + P.delta) (suc t)) refl
    where
      go : (d : Bool) → eqb (m + P.delta) (suc t) ≡ d → StatusIs P c (suc t) b (cond d correct (cured m))
      go true q = let r = eqb→eq (m + P.delta) (suc t) (rw q tt) in (a, λ x y. omega arith)
      go false q =
          let r : m + P.delta ≢ suc t = (λ z. T_not (eqb (m + P.delta) (suc t)) (rw q tt) (rw z (eqb_refl (suc t)))) in
          (a, e, omega arith, k, o)

  move-status : (c t b : ℕ) (h : Bool) (s : Status) → P.placed (c + 1) b ≡ h → t ≡ (c + 1) * P.period → StatusIs P c t b s
      → StatusIs P (c + 1) t b (cond h faulty (cond (is_faulty s) (cured t) s))
  unfolding StatusIs
  move-status c t b true s e f ok = rw e tt
  move-status c t b false faulty e f ok =
      let q : c + 1 - 1 ≡ c = omega arith in (rw e tt, f, omega (arith, G.delta_pos), rw q ok, omega arith)
  move-status c t b false (cured m) e f ok = absurd (omega (arith, G.delta_period, ok.1, ok.2))
  move-status c t b false correct e f ok =
      let q : c + 1 - 1 ≡ c = omega arith in (rw e tt, (λ a k. absurd (T_not (P.placed c b) ok.0 (rw q at k))))

  status-zero : (b : ℕ) → b < P.n → (mid P 0 b).server.status ≡ correct
  status-zero b l = rw (mid_status P 0 b, before_zero P b l)

  first-move : (b : ℕ) (h : Bool) → P.placed 0 b ≡ h → StatusIs P 0 0 b (cond h faulty correct)
  unfolding StatusIs
  first-move b true e = rw e tt
  first-move b false e = (rw e tt, λ a k. absurd (omega arith))

  pub mid_suc : (t b : ℕ) → StatusIs P (t / P.period) t b (before P (suc t) b).status
      → StatusIs P (t / P.period) (suc t) b (mid P (suc t) b).server.status
  mid_suc t b ok = rw (mid_status P (suc t) b) (cure (t / P.period) t b (before P (suc t) b).status ok)

  pub status_is : (t b : ℕ) → b < P.n → StatusIs P (t / P.period) t b (before P (suc t) b).status
  status_is zero b l = rw (before_suc P 0 b l, end_server P 0 b, zero-div P.period)
      (cond_e (λ (x : Server). StatusIs P 0 0 b x.status) (is_move P 0) _ _
      (λ h. rw (moved_status P 0 (P.placed 0 b) (mid P 0 b).server, status-zero b l) (first-move b (P.placed 0 b) refl))
      (λ h. absurd (not_moving P 0 h (zero-mod P.period))))
  status_is (suc t) b l = rw (before_suc P (suc t) b l, end_server P (suc t) b)
      (cond_e (λ (x : Server). StatusIs P (suc t / P.period) (suc t) b x.status) (is_move P (suc t)) _ _
      (λ h. let q = (period_suc P G t).1 (moving P (suc t) h) in
      let z : suc t ≡ (t / P.period + 1) * P.period = rw q.0 at q.1 in
      rw (q.0, moved_status P (suc t) (P.placed (t / P.period + 1) b) (mid P (suc t) b).server)
      (move-status (t / P.period) (suc t) b (P.placed (t / P.period + 1) b) (mid P (suc t) b).server.status refl z
      (mid_suc t b (status_is t b l))))
      (λ h. rw ((period_suc P G t).0 (not_moving P (suc t) h)) (mid_suc t b (status_is t b l))))

  -- what follows: a server is faulty as placed, and one that is not placed is not
  pub faulty_placed : (t b : ℕ) → b < P.n → is_faulty (before P (suc t) b).status ≡ P.placed (t / P.period) b
  unfolding StatusIs
  faulty_placed t b l = go (before P (suc t) b).status (status_is t b l)
    where
      go : (s : Status) → StatusIs P (t / P.period) t b s → is_faulty s ≡ P.placed (t / P.period) b
      go faulty k = sym (T_eq (P.placed (t / P.period) b) k)
      go (cured m) k = sym (F_eq (P.placed (t / P.period) b) k.0)
      go correct k = sym (F_eq (P.placed (t / P.period) b) k.0)

  pub not_faulty : (t b : ℕ) → b < P.n → T (not (P.placed (t / P.period) b)) → T (not (is_faulty (before P (suc t) b).status))
  not_faulty t b l h = rw (faulty_placed t b l) h

  -- a server that neither this placement nor the one before makes faulty is correct
  pub steady_correct : (t b : ℕ) → b < P.n → T (not (P.placed (t / P.period) b)) → T (not (P.placed (t / P.period - 1) b))
      → T (is_correct (before P (suc t) b).status)
  unfolding StatusIs
  steady_correct t b l h g = go (before P (suc t) b).status (status_is t b l)
    where
      go : (s : Status) → StatusIs P (t / P.period) t b s → T (is_correct s)
      go faulty k = absurd (T_not (P.placed (t / P.period) b) h k)
      go (cured m) k = absurd (T_not (P.placed (t / P.period - 1) b) g k.3)
      go correct k = tt

  -- a server is correct after stage 2 of tick t + 1 where it is not placed and its cure is over
  pub mid_correct_placed : (t b : ℕ) → b < P.n → T (is_correct (mid P (suc t) b).server.status)
      → T (not (P.placed (t / P.period) b)) × CureOver P t b
  unfolding StatusIs
  mid_correct_placed t b l h = go (mid P (suc t) b).server.status h (mid_suc t b (status_is t b l))
    where
      go : (s : Status) → T (is_correct s) → StatusIs P (t / P.period) (suc t) b s
          → T (not (P.placed (t / P.period) b)) × CureOver P t b
      go faulty u k = absurd u
      go (cured m) u k = absurd u
      go correct u k = k

  pub placed_mid_correct : (t b : ℕ) → b < P.n → T (not (P.placed (t / P.period) b)) → CureOver P t b
      → T (is_correct (mid P (suc t) b).server.status)
  unfolding StatusIs
  placed_mid_correct t b l h g = go (mid P (suc t) b).server.status (mid_suc t b (status_is t b l))
    where
      go : (s : Status) → StatusIs P (t / P.period) (suc t) b s → T (is_correct s)
      go faulty k = absurd (T_not (P.placed (t / P.period) b) h k)
      go (cured m) (a, e, u, k, o) = absurd (omega (arith, g o k))
      go correct k = tt
