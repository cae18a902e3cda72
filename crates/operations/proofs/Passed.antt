-- The loop over the operations: what it knows of those it has passed, and what its three tests say of the next one.
-- It stands on the laws of waiting.
use mathlib.Core.Path.{◌≡◌, refl, sym, ap, ◌∙◌}
use mathlib.Core.Bool.{Bool, true, ◌&&◌, ◌||◌, and_assoc}
use mathlib.Core.List.{List}
use Prim.Native.Nat.{ℕ, ◌+◌, ◌*◌, ◌≤◌, ◌<◌}
use native.Mathlib.Omega.{arith}
use lib.Dec.{leb, ltb, eqb}
use lib.ListN.{length, get_or, set, replicate, length-set}
use borrow.Author.Tests.{leb-true, ltb-true, ne_eqb}
use Rattle.bits.specs.Field.{field_of}
use Rattle.bits.proofs.Laws.{field_split}
use Rattle.register.specs.Lists.{all_up_to}
use Rattle.register.proofs.Logic.{and_both}
use Rattle.plan.specs as plan-specs
use Rattle.plan.specs.Parts as Parts
use Rattle.plan.specs.Check.{operations_stand, operation_stands, operation_rises, operation_waits, end_of}
use Rattle.plan.specs.Steps.{operation, IsOperation}
use Rattle.operations.specs.Steps.{stands_alone}
use Rattle.plan.specs.declared.operations.Operation.{Operation}
use Rattle.plan.proofs.Laws.{all_none, all_more, all_at}
use Rattle.plan.proofs.Waiting.{follows, follows_none, follows_more, follows_rises, ended, Free, free_none, free_more}

and_regroup : (a b c d : Bool) → a && (b && (c && d)) ≡ (a && (b && c)) && d
and_regroup a b c d = simp and_assoc

-- when a read ends
pub read_end : (h : plan-specs.Header.Header) (o : Operation) → (o.party ≡ 0 → ⊥) → end_of h (operation o) ≡ o.at + 2 * h.delta
unfolding end_of
read_end h o d = rw (ne_eqb o.party 0 d)

module _ (w : ℕ) (s : List ℕ) (h : plan-specs.Header.Header) where
  unfoldable pub key_of : ℕ → ℕ
  key_of j = field_of s (plan-specs.Header.operation_at w h j) (plan-specs.Header.key_bits w)

  unfoldable pub party_of : ℕ → ℕ
  party_of j = (plan-specs.Parts.operation_of w s h j).party

  unfoldable pub done_of : ℕ → ℕ
  done_of j = end_of h (plan-specs.Parts.operation_of w s h j)

  -- the first i operations stand; the next one's least key, and its least tick by party
  pub record Passed (i next : ℕ) (free : List ℕ) : Type 0 where
    pub long : length free ≡ 8
    pub stand : all_up_to i (operation_stands w s h) ≡ true
    pub order : next ≡ follows key_of i
    pub waits : Free party_of done_of i free

  pub passed_none : Passed 0 0 (replicate 8 0)
  passed_none = record { long = refl; stand = all_none _; order = follows_none key_of; waits = free_none party_of done_of 8 }

  module _ (i : ℕ) (o : Operation) (is : IsOperation w s (plan-specs.Header.operation_at w h i) o) where
    pub operation_is : plan-specs.Parts.operation_of w s h i ≡ operation o
    unfolding plan-specs.Parts.operation_of
    operation_is = sym is.is

    party-is : party_of i ≡ o.party
    unfolding party_of
    party-is = ap (λ (x : Parts.Operation). x.party) operation_is

    done-is : done_of i ≡ end_of h (operation o)
    unfolding done_of
    done-is = ap (end_of h) operation_is

    key-is : key_of i ≡ o.at * 8 + o.party
    unfolding key_of
    key-is = rw (ap (λ (x : Parts.Operation). x.at) is.is, ap (λ (x : Parts.Operation). x.party) is.is) (field_split s (plan-specs.Header.operation_at w h i) 7 3)

    module _ (next : ℕ) (free : List ℕ) (p : Passed i next free) where
      rises : operation_rises w s h i ≡ leb next (o.at * 8 + o.party)
      unfolding operation_rises key_of
      rises = follows_rises key_of i (key_of i) ∙ rw (← p.order, key-is)

      waiting : operation_waits w s h i ≡ leb (get_or free o.party 0) o.at
      unfolding operation_waits ended party_of done_of
      waiting = p.waits (plan-specs.Parts.operation_of w s h i).party (plan-specs.Parts.operation_of w s h i).at ∙ rw operation_is

      pub stands_as : operation_stands w s h i
          ≡ stands_alone h (operation o) && (leb next (o.at * 8 + o.party) && leb (get_or free o.party 0) o.at)
      unfolding operation_stands
      stands_as = rw (rises, waiting, operation_is) (
          and_regroup (leb o.party h.readers) (eqb o.party 0 || eqb o.value 0) (ltb (end_of h (operation o)) h.ticks) _)

      pub passed_more : operation_stands w s h i ≡ true → o.party < 8 → leb (get_or free o.party 0) o.at ≡ true
          → (e : ℕ) → e ≡ end_of h (operation o) → o.at ≤ e
          → Passed (i + 1) (o.at * 8 + o.party + 1) (set free o.party (e + 1))
      passed_more t l v e d u =
          let a = party-is in
          let b = done-is ∙ sym d in
          let free-by = leb-true (get_or free o.party 0) o.at v in
          record {
            long = length-set free o.party (e + 1) ∙ p.long;
            stand = all_more _ _ p.stand t;
            order = ap (λ (k : ℕ). k + 1) (sym key-is) ∙ follows_more key_of i;
            waits = rw (← a, ← b) (free_more party_of done_of i free p.waits (rw (a, p.long) l) (rw (a, b) (omega arith)));
          }

    -- an accepted read ends below the plan's ticks
    pub read_ends : operations_stand w s h ≡ true → i < h.operations → (o.party ≡ 0 → ⊥) → o.at + 2 * h.delta < h.ticks
    unfolding operations_stand operation_stands
    read_ends t l d =
        let first = leb o.party h.readers in
        let second = eqb o.party 0 || eqb o.value 0 in
        let third = ltb (end_of h (operation o)) h.ticks in
        let rest = operation_rises w s h i && operation_waits w s h i in
        let all = rw (operation_is, and_regroup first second third rest) at (all_at (operation_stands w s h) h.operations i l t) in
        let ends = (and_both second third (and_both first (second && third) (and_both (first && (second && third)) rest all).0).1).1 in
        rw (read_end h o d) at (ltb-true (end_of h (operation o)) h.ticks ends)
