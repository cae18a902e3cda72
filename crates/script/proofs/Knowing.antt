-- The known pairs are the plan's: each write under its own number, and in a tick the WRITE that arrives at a server is the last one begun.
-- It stands on what Check accepts.
use mathlib.Core.Path.{◌≡◌, refl, sym, ap, ◌∙◌}
use mathlib.Core.Bool.{Bool, ◌&&◌, cond}
use mathlib.Core.List.{List}
use Prim.Native.Nat.{ℕ, suc, ◌+◌, ◌-◌, ◌≤◌, ◌<◌}
use native.Mathlib.Omega.{arith}
use native.Mathlib.Decide.{dec_le, ℕ_discrete}
use lib.Dec.{T, eqb, ltb, ltb→lt, lt→ltb, eqb→eq, eqb_refl}
use lib.ListN.{get_or}
use Rattle.register.specs as register-specs
use Rattle.register.specs.Plan.{Write, number_of}
use Rattle.register.proofs.Logic.{T_iff, T_eq, and_l, and_r, and_i}
use Rattle.register.proofs as register-laws
use Rattle.plan.specs as plan-specs
use Rattle.plan.specs.Packed.{plan_of}
use Rattle.plan.proofs as plan-laws
use Rattle.tables.specs.declared.Known.{Known}
use Rattle.refinement.specs.Requests.{write_reaches, write_way, write_begins}
use Rattle.tables.specs.Known.{pair_at, Knows}
use Rattle.script.specs as script-specs
use Rattle.tables.specs as tables-specs
use Rattle.tables.proofs.Tables.{taken}

module _ (w : ℕ) (s : List ℕ) (A : plan-specs.Playable.Playable w s) (known : Known) (begun : List ℕ)
    (W : tables-specs.Operations.Written w (plan_of w s).writes (plan-specs.Header.header_of w s).initial known.values begun known.m) where
  -- write j of the tables is write j - 1 of the plan
  abbrev written : ℕ → Write
  written j = get_or (plan_of w s).writes (j - 1) tables-specs.Operations.no_write

  write-at : (j : ℕ) → 1 ≤ j → j < known.m → written j ≡ record { begun = get_or begun j 0; pair = pair_at w known j }
  write-at j a l = let z : suc (j - 1) ≡ j = omega arith in rw z at (W.each (j - 1) (omega (arith, W.count)))

  begun-at : (j : ℕ) → 1 ≤ j → j < known.m → (written j).begun ≡ get_or begun j 0
  begun-at j a l = ap (λ (x : Write). x.begun) (write-at j a l)

  write-numbered : (x : Write) → register-specs.Lists.In x (plan_of w s).writes → (j : ℕ) × (1 ≤ j) × (j < known.m) × (x.pair ≡ pair_at w known j) × (x.begun ≡ get_or begun j 0)
  write-numbered x h =
      let (i, l, e) = plan-laws.Tests.in_get_d (plan_of w s).writes x tables-specs.Operations.no_write h in
      let q = e ∙ W.each i l in
      (suc i, omega arith, omega (arith, W.count), ap (λ (x : Write). x.pair) q, ap (λ (x : Write). x.begun) q)

  pair-number : (j : ℕ) → number_of w (pair_at w known j) ≡ j
  pair-number j = register-laws.Stamped.number_stamped w (get_or known.values j 0) j (W.small j)

  -- each begins after the last one ended
  begun-apart : (i j : ℕ) → 1 ≤ i → i < j → j < known.m → get_or begun i 0 + (plan-specs.Header.header_of w s).delta < get_or begun j 0
  begun-apart i j a b c =
      let apart = plan-laws.AcceptWrites.writes_apart w s A tables-specs.Operations.no_write (i - 1) (j - 1) (omega arith) (omega (arith, W.count)) in
      omega (arith, begun-at i a (omega arith), begun-at j (omega arith) c)

  begun-rises : (i j : ℕ) → 1 ≤ i → i ≤ j → j < known.m → get_or begun i 0 ≤ get_or begun j 0
  begun-rises i j a b c = elim (ℕ_discrete i j) [ yes z ↦ rw z (omega arith) | no d ↦ omega (arith, begun-apart i j a (omega arith) c) ]

  pub knows : Knows (plan_of w s) (pair_at w known) known.m
  unfolding plan_of
  knows = record {
    few = W.few;
    servers = (plan-laws.Accept.in_range w s A).n_hi;
    slow = (plan-laws.Accept.in_range w s A).delta_hi;
    depth = refl;
    rising = λ i j h. register-laws.Stamped.stamped_rises w (get_or known.values i 0) (get_or known.values j 0) i j (W.small i) h;
    first = (omega (arith, W.count), rw W.first);
    write = λ x h. let (j, a, b, p, q) = write-numbered x h in (j, b, p);
    readers = λ r h. ((plan-laws.AcceptReads.read_stands w s A r h).reader_lo, omega (arith, (plan-laws.AcceptReads.read_stands w s A r h).reader_hi, (plan-laws.Accept.in_range w s A).readers_hi));
  }

  -- the next write begins after tick t
  pub latest_next : (t last : ℕ) → script-specs.Inputs.LatestWrite begun known.m t last → (suc last < known.m → get_or begun (suc last) 0 ≡ t → ⊥)
      → script-specs.Inputs.LatestWrite begun known.m (suc t) last
  latest_next t last L later =
      let first : suc last < known.m → suc t ≤ get_or begun (suc last) 0 =
      λ l. elim (ℕ_discrete (get_or begun (suc last) 0) t) [ yes e ↦ absurd (later l e) | no d ↦ omega (arith, L.last (suc last) (omega arith) l) ] in
      record { below = L.below; before = λ h. omega (arith, L.before h); last = λ j a b. omega (arith, first (omega arith), begun-rises (suc last) j (omega arith) a b) }

  -- it begins in tick t
  pub latest_begun : (t last : ℕ) → suc last < known.m → get_or begun (suc last) 0 ≡ t → script-specs.Inputs.LatestWrite begun known.m (suc t) (suc last)
  latest_begun t last l e = record { below = l; before = λ h. omega arith; last = λ j a b. omega (arith, begun-apart (suc last) j (omega arith) a b) }

  -- the writes that begin in tick t: the next one, or none
  module _ (t u b last : ℕ) (latest : script-specs.Inputs.LatestWrite begun known.m t last) where
    abbrev begins : Bool
    begins = ltb (suc last) known.m && eqb (get_or begun (suc last) 0) t

    -- only the next one can
    next_is : (j : ℕ) → 1 ≤ j → j < known.m → get_or begun j 0 ≡ t → j ≡ suc last
    next_is j one lj e = elim (ℕ_discrete j (suc last)) [
      | yes z ↦ z
      | no d ↦ elim (dec_le j last) [
        | yes v ↦ absurd (omega (arith, latest.before (omega arith), begun-rises j last one v latest.below))
        | no v ↦ absurd (omega (arith, latest.last (suc last) (omega arith) (omega arith), begun-apart (suc last) j (omega arith) (omega arith) lj))
      ]
    ]

    pub write_begins_lem : write_begins (plan_of w s) t u b ≡ begins && eqb (t + (plan_of w s).delay t (plan_of w s).n b) u
    unfolding write_begins
    write_begins_lem =
        let hit : Write → Bool = λ x. eqb x.begun t && write_reaches (plan_of w s) u b x in
        T_iff _ _
        (λ y.
        let (x, iw, z) = register-laws.Lists.any_in hit (plan_of w s).writes y in
        let now : x.begun ≡ t = eqb→eq x.begun t (and_l (eqb x.begun t) _ z) in
        let (j, one, lj, pj, bj) = write-numbered x iw in
        let next : j ≡ suc last = next_is j one lj (sym bj ∙ now) in
        and_i begins _ (and_i (ltb (suc last) known.m) _ (lt→ltb (suc last) known.m (rw next at lj)) (rw (← next, ← bj, now) (eqb_refl t)))
        (rw now at (and_r (eqb x.begun t) _ z)))
        (λ y.
        let c = and_l begins _ y in
        let l : suc last < known.m = ltb→lt (suc last) known.m (and_l (ltb (suc last) known.m) _ c) in
        let e : (written (suc last)).begun ≡ t = begun-at (suc last) (omega arith) l ∙ eqb→eq _ t (and_r (ltb (suc last) known.m) _ c) in
        register-laws.Lists.in_any hit (written (suc last)) (plan_of w s).writes
        (plan-laws.Tests.get_d_in (plan_of w s).writes (suc last - 1) tables-specs.Operations.no_write (omega (arith, W.count)))
        (and_i (eqb (written (suc last)).begun t) _ (rw e (eqb_refl t)) (rw e (and_r begins _ y))))

  module _ (t b last : ℕ) (latest : script-specs.Inputs.LatestWrite begun known.m t last) where
    -- a write that arrives is the last one begun
    came-last : (j : ℕ) → 1 ≤ j → j < known.m → get_or begun j 0 + (plan_of w s).delay (get_or begun j 0) (plan_of w s).n b ≡ t → j ≡ last
    came-last j a l c =
        let range = plan-laws.AcceptGood.delay_range w s A (get_or begun j 0) (plan_of w s).n b in
        elim (ℕ_discrete j last) [
          | yes z ↦ z
          | no d ↦ elim (dec_le j last) [
            | yes u ↦ absurd (omega (arith, c, range.1, begun-apart j last a (omega arith) latest.below, latest.before (omega arith)))
            | no u ↦ absurd (omega (arith, c, range.0, latest.last j (omega arith) l))
          ]
        ]

    -- what the engine needs to know of the WRITE that arrives
    pub wrote_last : (j : ℕ) → j < known.m → register-specs.Lists.member (pair_at w known j) (register-specs.Cluster.writes_in (plan_of w s) t b) ≡ eqb j (cond (write_way (plan_of w s) t t b) last 255)
    unfolding register-specs.Cluster.writes_in write_way
    wrote_last j l =
        let hit : Write → Bool = λ x. write_reaches (plan_of w s) t b x in
        let sent : Write → Bool = λ x. ltb x.begun t && hit x in
        T_iff _ _
        (λ y.
        let (p, ip, ep) = register-laws.Lists.any_in (λ q. eqb q (pair_at w known j)) (register-specs.Cluster.writes_in (plan_of w s) t b) y in
        let (x, iw, ew) = register-laws.Lists.in_map (λ (x : Write). x.pair) p (register-specs.Lists.filter hit (plan_of w s).writes) ip in
        let (wi, hw) = register-laws.Lists.in_filter hit x (plan_of w s).writes iw in
        let (i, one, li, pi, bi) = write-numbered x wi in
        let same : i ≡ j = sym (pair-number i) ∙ ap (number_of w) (sym pi ∙ sym ew ∙ eqb→eq p (pair_at w known j) ep) ∙ pair-number j in
        let is_last : j ≡ last = came-last j (omega arith) l (rw (← same, ← bi) (eqb→eq _ t hw)) in
        let before : x.begun < t = omega (arith, eqb→eq _ t hw, (plan-laws.AcceptGood.delay_range w s A x.begun (plan_of w s).n b).0) in
        let way : T (write_way (plan_of w s) t t b) = register-laws.Lists.in_any sent x (plan_of w s).writes wi (and_i (ltb x.begun t) _ (lt→ltb x.begun t before) hw) in
        rw (is_last, T_eq (write_way (plan_of w s) t t b) way) (eqb_refl last))
        (λ y.
        let (e, c) = taken j last (write_way (plan_of w s) t t b) (omega (arith, W.few)) y in
        let (x, iw, z) = register-laws.Lists.any_in sent (plan_of w s).writes c in
        let hw : T (hit x) = and_r (ltb x.begun t) _ z in
        let (i, one, li, pi, bi) = write-numbered x iw in
        let pw : x.pair ≡ pair_at w known last = pi ∙ ap (pair_at w known) (came-last i one li (rw (← bi) (eqb→eq _ t hw))) in
        let listed = register-laws.Lists.filter_in hit x (plan_of w s).writes iw hw in
        rw e (register-laws.Lists.in_any (λ q. eqb q (pair_at w known last)) x.pair (register-specs.Cluster.writes_in (plan_of w s) t b)
        (register-laws.Lists.map_in (λ (x : Write). x.pair) x (register-specs.Lists.filter hit (plan_of w s).writes) listed) (rw pw (eqb_refl (pair_at w known last)))))
