-- What can be played is good: every hypothesis of the register's theorem but the bound on n, from the tests of Check without 3.
-- It stands on the facts of operations, reads and writes, and on the register's laws of counting.
use mathlib.Core.Path.{◌≡◌, sym, ap, ◌∙◌}
use mathlib.Core.Bool.{false, not, ◌&&◌}
use mathlib.Core.Logic.{◌⊎◌, inl, inr}
use mathlib.Core.List.{List}
use Prim.Native.Nat.{ℕ, suc, ◌+◌, ◌*◌, ◌/◌, ◌≤◌, ◌<◌}
use native.Mathlib.Omega.{arith}
use native.Mathlib.Decide.{dec_le}
use lib.Dec.{T, ltb, leb→le, ltb→lt, T_not}
use lib.ListN.{length, get_or}
use Rattle.bits.proofs.Laws.{field_lt}
use Rattle.register.specs.{Lists.In, Lists.count, Lists.all_up_to, Plan.Write}
use Rattle.register.proofs.Logic.{and_l, and_r, test, cond_e, T_eq}
use Rattle.register.proofs as register-laws
use Rattle.plan.specs.Header.{Header, header_of, moves, parties}
use Rattle.plan.specs.Parts.{operation_of, in_placement, delay_of, is_link}
use Rattle.plan.specs.Packed.{plan_of}
use Rattle.plan.specs as plan-specs
use Rattle.plan.specs.Check.{placement_stands, placements_stand, delay_stands, delays_stand, final_bits_zero}
use Rattle.plan.proofs as plan-laws

module _ (w : ℕ) (s : List ℕ) (A : plan-specs.Playable.Playable w s) where
  H : plan-specs.Shape.Ranged (header_of w s)
  H = plan-laws.Accept.in_range w s A

  -- 'at most f ones'; past the last placement nobody is faulty
  few-placed : (i : ℕ) → count (λ b. (plan_of w s).placed i b) (header_of w s).n ≤ (header_of w s).f
  unfolding plan_of placements_stand placement_stands moves H
  few-placed i = go (test (ltb (i * h.period) h.ticks))
    where
      h : Header
      h = header_of w s

      go : T (ltb (i * h.period) h.ticks) ⊎ T (not (ltb (i * h.period) h.ticks)) → count (λ b. (plan_of w s).placed i b) h.n ≤ h.f
      go (inl t) =
          let l = ltb→lt (i * h.period) h.ticks t in
          let some : 0 < h.period = omega (arith, H.delta_lo, H.period_lo) in
          let below : i < moves h = plan-laws.Ranges.movement_below h.ticks i h.period some l in
          let ok = plan-laws.Tests.all_at (moves h) (placement_stands w s h) A.placements i below in
          omega (
            arith,
            leb→le (count (in_placement w s h i) h.n) h.f (search and_l),
            register-laws.Counting.count_mono (λ b. (plan_of w s).placed i b) (in_placement w s h i) h.n (λ b m u. search (and_l, and_r)),
          )
      go (inr t) = omega (
        arith,
        register-laws.Counting.count_none h.n,
        register-laws.Counting.count_mono (λ b. (plan_of w s).placed i b) (λ b. false) h.n
            (λ b l u. T_not (ltb (i * h.period) h.ticks) t (and_l (ltb (i * h.period) h.ticks) (ltb b h.n && in_placement w s h i b) u)),
      )

  delay-test : (t i j : ℕ) → t < (header_of w s).ticks → i < parties (header_of w s) → j < parties (header_of w s)
      → T (delay_stands w s (header_of w s) t i j)
  unfolding delays_stand
  delay-test t i j tl il jl =
      let h : Header = header_of w s in
      plan-laws.Tests.all_at (parties h) (λ j. delay_stands w s h t i j)
      (plan-laws.Tests.all_at (parties h) (λ i. all_up_to (parties h) (λ j. delay_stands w s h t i j))
      (plan-laws.Tests.all_at h.ticks (λ t. all_up_to (parties h) (λ i. all_up_to (parties h) (λ j. delay_stands w s h t i j)))
      (and_l (delays_stand w s h) (final_bits_zero w s h) A.delays) t tl) i il) j jl

  -- 'hold 1 to δ'; outside the table a delay is 1
  pub delay_range : (t i j : ℕ) → (1 ≤ (plan_of w s).delay t i j) × ((plan_of w s).delay t i j ≤ (header_of w s).delta)
  unfolding plan_of delay_stands H
  delay_range t i j =
      let h : Header = header_of w s in
      cond_e (λ (d : ℕ). (1 ≤ d) × (d ≤ h.delta))
      (ltb t h.ticks && (ltb i (parties h) && (ltb j (parties h) && is_link h.n i j))) (delay_of w s h t i j) 1
      (λ u.
      let t1 : T (ltb t h.ticks) = search and_l in
      let t2 : T (ltb i (parties h)) = search (and_l, and_r) in
      let t3 : T (ltb j (parties h)) = search (and_l, and_r) in
      let t4 : T (is_link h.n i j) = search (and_l, and_r) in
      let ok = delay-test t i j (ltb→lt t h.ticks t1) (ltb→lt i (parties h) t2) (ltb→lt j (parties h) t3) in
      let range = rw (T_eq (is_link h.n i j) t4) at ok in
      (leb→le 1 (delay_of w s h t i j) (search and_l), leb→le (delay_of w s h t i j) h.delta (search (and_l, and_r))))
      (λ u. (omega arith, H.delta_lo))

  none : Write
  none = record { begun = 0; pair = 0 }

  rising : (v u : Write) → In v (plan_of w s).writes → In u (plan_of w s).writes → v.pair < u.pair → v.begun + (header_of w s).delta < u.begun
  rising v u mv mu l =
      let (i, li, ei) = plan-laws.Tests.in_get_d (plan_of w s).writes v none mv in
      let (j, lj, ej) = plan-laws.Tests.in_get_d (plan_of w s).writes u none mu in
      go i li ei j lj ej (dec_le (suc i) j) (dec_le (suc j) i)
    where
      go : (i : ℕ) → i < length (plan_of w s).writes → v ≡ get_or (plan_of w s).writes i none
          → (j : ℕ) → j < length (plan_of w s).writes → u ≡ get_or (plan_of w s).writes j none
          → Dec (i < j) → Dec (j < i) → v.begun + (header_of w s).delta < u.begun
      go i li ei j lj ej (yes d) c = rw (ei, ej) (plan-laws.AcceptWrites.writes_apart w s A none i j d lj)
      go i li ei j lj ej (no d) (yes c) =
          let W = plan-laws.AcceptWrites.write_operation w s A none i li in
          let X = plan-laws.AcceptWrites.write_operation w s A none j lj in
          let op = operation_of w s (header_of w s) in
          absurd (omega (
            arith,
            register-laws.Stamped.stamped_rises w (op X.index).value (op W.index).value (1 + j) (1 + i) (plan-laws.AcceptOperations.value_lt w s A X.index) (omega arith),
            W.pair_same,
            X.pair_same,
            ap (λ (x : Write). x.pair) ei,
            ap (λ (x : Write). x.pair) ej,
          ))
      go i li ei j lj ej (no d) (no c) =
          let z : i ≡ j = omega arith in
          absurd (omega (arith, ap (λ (x : Write). x.pair) (ei ∙ ap (λ (k : ℕ). get_or (plan_of w s).writes k none) z ∙ sym ej)))

  initial_least : (u : Write) → In u (plan_of w s).writes → (plan_of w s).initial < u.pair
  unfolding plan_of header_of
  initial_least u m =
      let (j, l, e) = plan-laws.Tests.in_get_d (plan_of w s).writes u none m in
      let W = plan-laws.AcceptWrites.write_operation w s A none j l in
      rw (e, W.pair_same)
      (register-laws.Stamped.stamped_rises w (header_of w s).initial (operation_of w s (header_of w s) W.index).value 0 (1 + j) (field_lt s 28 w) (omega arith))

  pub good : register-laws.Good.Good (plan_of w s)
  unfolding plan_of H
  good = record {
    delta_pos = H.delta_lo;
    delta_period = H.period_lo;
    deep = omega arith;
    few = few-placed;
    delay_lo = λ t i j. (delay_range t i j).0;
    delay_hi = λ t i j. (delay_range t i j).1;
    forger = plan-laws.AcceptForgeries.forger_placed w s A;
    forger_below = λ g m. plan-laws.AcceptForgeries.placed_below w s (g.at / (header_of w s).period) g.from (plan-laws.AcceptForgeries.forger_placed w s A g m);
    rising = rising;
    initial_least = initial_least;
    apart = plan-laws.AcceptReads.reads_apart w s A;
  }
