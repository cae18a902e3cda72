-- The operations of a plan that can be played: each stands, they rise by tick and party, and those of one party are apart.
-- It stands on Accept.
use mathlib.Core.Path.{◌≡◌}
use mathlib.Core.Bool.{Bool, not, ◌||◌}
use mathlib.Core.Logic.{◌⊎◌, inl, inr}
use mathlib.Core.List.{List}
use Prim.Native.Nat.{ℕ, zero, suc, ◌+◌, ◌*◌, ◌-◌, ◌^◌, ◌≤◌, ◌<◌}
use native.Mathlib.Omega.{arith}
use lib.Dec.{T, ltb, eqb, leb→le, ltb→lt, eqb→eq, eqb_refl, T_not}
use Rattle.bits.specs.Field.{field_of}
use Rattle.bits.proofs.Laws.{field_lt, field_split}
use Rattle.register.specs.Lists.{all_up_to}
use Rattle.register.proofs.Logic.{and_l, and_r, or_e, T_eq, F_eq}
use Rattle.plan.specs.Header.{Header, header_of, operation_at}
use Rattle.plan.specs.Parts.{Operation, operation_of}
use Rattle.plan.specs.Check.{end_of, operation_rises, operation_waits, operation_stands, operations_stand}
use Rattle.plan.proofs.Tests.{all_at}
use Rattle.plan.specs.Playable.{Playable}

-- 'a party is at most s', 'cue 16 (0 for a read)', 'every operation ends below H'
pub record Stands (h : Header) (o : Operation) : Type 0 where
  pub party_hi : o.party ≤ h.readers
  pub value_zero : (o.party ≡ 0) ⊎ (o.value ≡ 0)
  pub ends : end_of h o < h.ticks

pub write_end_lem : (h : Header) (o : Operation) → o.party ≡ 0 → end_of h o ≡ o.at + h.delta
unfolding end_of
write_end_lem h o e = rw (T_eq (eqb o.party 0) (rw e tt))

pub read_end_lem : (h : Header) (o : Operation) → T (not (eqb o.party 0)) → end_of h o ≡ o.at + 2 * h.delta
unfolding end_of
read_end_lem h o t = rw (F_eq (eqb o.party 0) t)

module _ (w : ℕ) (s : List ℕ) (A : Playable w s) where
  stands-test : (i : ℕ) → i < (header_of w s).operations → T (operation_stands w s (header_of w s) i)
  unfolding operations_stand
  stands-test i l = all_at (header_of w s).operations (operation_stands w s (header_of w s)) A.operations i l

  pub stands : (i : ℕ) → i < (header_of w s).operations → Stands (header_of w s) (operation_of w s (header_of w s) i)
  unfolding operation_stands
  stands i l =
      let h : Header = header_of w s in
      let o : Operation = operation_of w s h i in
      let t = stands-test i l in
      let zero-value : T (eqb o.party 0 || eqb o.value 0) = search (and_l, and_r) in
      record {
        party_hi = leb→le o.party h.readers (search and_l);
        value_zero = elim (or_e (eqb o.party 0) (eqb o.value 0) zero-value) [
          | inl e ↦ inl (eqb→eq o.party 0 e)
          | inr e ↦ inr (eqb→eq o.value 0 e)
        ];
        ends = ltb→lt (end_of h o) h.ticks (search (and_l, and_r));
      }

  -- 'A party's next operation begins later than its last one ended'
  pub waits : (i j : ℕ) → i < j → j < (header_of w s).operations
      → (operation_of w s (header_of w s) i).party ≡ (operation_of w s (header_of w s) j).party
      → end_of (header_of w s) (operation_of w s (header_of w s) i) < (operation_of w s (header_of w s) j).at
  unfolding operation_stands operation_waits
  waits i j l m e =
      let h : Header = header_of w s in
      let o : Operation = operation_of w s h i in
      let q : Operation = operation_of w s h j in
      let t = stands-test j m in
      let ended : ℕ → Bool = λ k. not (eqb (operation_of w s h k).party q.party) || ltb (end_of h (operation_of w s h k)) q.at in
      let all : T (all_up_to j ended) = search (and_l, and_r) in
      let one = all_at j ended all i l in
      elim (or_e (not (eqb o.party q.party)) (ltb (end_of h o) q.at) one) [
        | inl d ↦ absurd (T_not (eqb o.party q.party) d (rw e (eqb_refl q.party)))
        | inr d ↦ ltb→lt (end_of h o) q.at d
      ]

  -- 'Operations strictly rise by tick, then party'
  next-rises : (i : ℕ) → suc i < (header_of w s).operations
      → (operation_of w s (header_of w s) i).at * 8 + (operation_of w s (header_of w s) i).party
      < (operation_of w s (header_of w s) (suc i)).at * 8 + (operation_of w s (header_of w s) (suc i)).party
  unfolding operation_stands operation_rises operation_of
  next-rises i l =
      let h : Header = header_of w s in
      let t = stands-test (suc i) l in
      let before : T (eqb (suc i) 0 || ltb (field_of s (operation_at w h (suc i - 1)) 10) (field_of s (operation_at w h (suc i)) 10)) = search (and_l, and_r) in
      let e : suc i - 1 ≡ i = omega arith in
      elim (or_e (eqb (suc i) 0) (ltb (field_of s (operation_at w h i) 10) (field_of s (operation_at w h (suc i)) 10)) (rw e at before)) [
        | inl z ↦ absurd (omega (arith, eqb→eq (suc i) 0 z))
        | inr u ↦ omega (
          arith,
          ltb→lt (field_of s (operation_at w h i) 10) (field_of s (operation_at w h (suc i)) 10) u,
          field_split s (operation_at w h i) 7 3,
          field_split s (operation_at w h (suc i)) 7 3,
        )
      ]

  rises_by : (i d : ℕ) → i + suc d < (header_of w s).operations
      → (operation_of w s (header_of w s) i).at * 8 + (operation_of w s (header_of w s) i).party
      < (operation_of w s (header_of w s) (i + suc d)).at * 8 + (operation_of w s (header_of w s) (i + suc d)).party
  rises_by i zero l = let e : i + 1 ≡ suc i = omega arith in rw e (next-rises i (omega arith))
  rises_by i (suc d) l =
      let e : i + suc (suc d) ≡ suc (i + suc d) = omega arith in
      rw e (omega (arith, rises_by i d (omega arith), next-rises (i + suc d) (omega arith)))

  pub rises : (i j : ℕ) → i < j → j < (header_of w s).operations
      → (operation_of w s (header_of w s) i).at * 8 + (operation_of w s (header_of w s) i).party
      < (operation_of w s (header_of w s) j).at * 8 + (operation_of w s (header_of w s) j).party
  rises i j l m =
      let e : i + suc (j - suc i) ≡ j = omega arith in
      rw e at (rises_by i (j - suc i) (omega arith))

  pub at_lt : (i : ℕ) → (operation_of w s (header_of w s) i).at < 128
  unfolding operation_of
  at_lt i = field_lt s (operation_at w (header_of w s) i) 7

  pub value_lt : (i : ℕ) → (operation_of w s (header_of w s) i).value < 2 ^ w
  unfolding operation_of
  value_lt i = field_lt s (operation_at w (header_of w s) i + 7 + 3) w
