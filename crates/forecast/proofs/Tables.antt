-- The tables that the loops fill, one entry more: the placement of each tick, and the arrivals counted by tick.
-- It stands on the library's laws of stores, and on the register's laws of counting.
use mathlib.Core.Path.{◌≡◌, refl, sym, ◌∙◌}
use mathlib.Core.List.{List}
use Prim.Native.Nat.{ℕ, ◌+◌, ◌/◌, ◌≤◌, ◌<◌}
use native.Mathlib.Numerals.{add-one}
use native.Mathlib.Omega.{arith}
use native.Mathlib.Decide.{ℕ_discrete}
use lib.Dec.{eqb}
use lib.ListN.{get_or, set, length-set, replicate}
use lib.Seq.{get_or-set_same, get_or-set_other}
use borrow.Author.Tests.{eq-eqb, ne_eqb}
use Rattle.bits.specs.Field.{field_of}
use Rattle.register.specs.Lists.{count}
use Rattle.register.proofs.Counting.{count_le}
use Rattle.register.proofs.Lists.{get_d_replicate_same}
use Rattle.plan.specs.Header.{Header, placement_bits, placement_at}
use Rattle.forecast.specs.Steps.{most_ticks, most_arrivals, InForce, Arrived}

module _ (w : ℕ) (s : List ℕ) (h : Header) where
  pub in_force_none : InForce w s h 0 (replicate most_ticks 0)
  in_force_none = record { size = refl; each = λ t l. absurd (omega arith) }

  pub in_force_more : (t : ℕ) (table : List ℕ) (x : ℕ) → t < most_ticks → x ≡ field_of s (placement_at w (t / h.period)) placement_bits → InForce w s h t table
      → InForce w s h (t + 1) (set table t x)
  in_force_more t table x l e F = record {
    size = length-set table t x ∙ F.size;
    each = λ u m. elim (ℕ_discrete u t) [
      | yes z ↦ rw z (get_or-set_same table t x 0 (omega (arith, F.size)) ∙ e)
      | no d ↦ get_or-set_other table t u x 0 d ∙ F.each u (omega arith)
    ];
  }

module _ (arrival : ℕ → ℕ) where
  pub arrived_none : Arrived arrival 0 (replicate most_arrivals 0)
  unfolding count
  arrived_none = record { size = refl; each = λ t l. get_d_replicate_same most_arrivals t 0 }

  module _ (e : ℕ) (table : List ℕ) (A : Arrived arrival e table) where
    -- no more of them than were looked at
    pub arrived_few : (t : ℕ) → t < most_arrivals → get_or table t 0 ≤ e
    arrived_few t l = rw (A.each t l) (count_le (λ i. eqb (arrival i) t) e)

    pub arrived_more : (a : ℕ) → a < most_arrivals → a ≡ arrival e → Arrived arrival (e + 1) (set table a (get_or table a 0 + 1))
    unfolding count
    arrived_more a l z = record {
      size = length-set table a (get_or table a 0 + 1) ∙ A.size;
      each = λ t m. elim (ℕ_discrete t a) [
        | yes q ↦
            rw (q, add-one e, eq-eqb (arrival e) a (sym z))
            (get_or-set_same table a (get_or table a 0 + 1) 0 (omega (arith, A.size)) ∙ omega (arith, A.each a l))
        | no d ↦
            rw (add-one e, ne_eqb (arrival e) t (λ y. d (sym (z ∙ y))))
            (get_or-set_other table a t (get_or table a 0 + 1) 0 d ∙ omega (arith, A.each t m))
      ];
    }
