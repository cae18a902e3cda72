-- Cells and rows of the table: cells of other rows stay, a row of zeros has no votes, a row as the servers join it pair by pair, and a new period.
-- It stands on the calendar's laws of sets.
use mathlib.Core.Path.{◌≡◌, refl, sym, ◌∙◌, fun_ext}
use mathlib.Core.Bool.{Bool, true, false, ◌&&◌, ◌||◌, cond, or-false}
use mathlib.Core.Logic.{◌⊎◌, inl, inr}
use mathlib.Core.List.{List}
use Prim.Native.Nat.{ℕ, ◌+◌, ◌≤◌, ◌<◌}
use native.Mathlib.Omega.{arith}
use native.Mathlib.Decide.{ℕ_discrete, dec_le}
use lib.Dec.{ltb}
use lib.ListN.{length, get_or, set}
use lib.Seq.{get_or-set_same, get_or-set_other}
use lib.Bits.{bit_or}
use borrow.Author.Tests.{lt-ltb, ltb-true}
use Rattle.register.proofs.Logic.{test, T_eq, F_eq}
use Rattle.limits.specs.Bits.{bit}
use Rattle.limits.specs.Limits.{places}
use Rattle.calendar.specs.Layout.{rows, low_of, high_of, sender}
use Rattle.calendar.specs.View.{Spanned, Zeroed}
use Rattle.calendar.proofs.Laws.{under, never}
use Rattle.limits.proofs.Bits.{bit_or_lem, bit_zero}
use Rattle.tallies.specs.Tallies.{recent_at, named_at, of_server, holds, row_of_sets, Outside, Emptied, Aged, SameOthers, no_votes, joined}

-- ---- rows

pub same_row : (m : ℕ) (sets r : List ℕ) (at : ℕ) → m ≤ places → ((j : ℕ) → j < places → get_or r (at + j) 0 ≡ get_or sets (at + j) 0)
    → row_of_sets m r at ≡ row_of_sets m sets at
same_row m sets r at h e = fun_ext (λ j. fun_ext (λ i. under (ltb j m) _ _ (λ l. rw (e j (omega (arith, ltb-true j m l))))))

pub zero_row : (m : ℕ) (sets : List ℕ) (at : ℕ) → m ≤ 65 → ((j : ℕ) → j < places → get_or sets (at + j) 0 ≡ 0) → row_of_sets m sets at ≡ no_votes
zero_row m sets at h e = fun_ext (λ j. fun_ext (λ i. never (ltb j m) _ (λ l. rw (e j (omega (arith, ltb-true j m l))) (bit_zero i))))

-- ---- the rows of other servers, and those of readers

-- the rows of two servers
pub apart : (b k j : ℕ) → (k ≡ b → ⊥) → j < places → Outside (of_server b) (of_server k + j)
apart b k j d h = elim (dec_le k b) [ yes l ↦ inl (omega arith) | no l ↦ inr (omega arith) ]

pub apart_recent : (b k j : ℕ) → (k ≡ b → ⊥) → j < places → Outside (recent_at + of_server b) (recent_at + of_server k + j)
apart_recent b k j d h = elim (dec_le k b) [ yes l ↦ inl (omega arith) | no l ↦ inr (omega arith) ]

pub named_same : (sets r : List ℕ) (b : ℕ) → SameOthers sets r b → b < 16 → (c : ℕ) → named_at ≤ c → get_or r c 0 ≡ get_or sets c 0
named_same sets r b O h c l = O.rest c (inr (omega arith)) (inr (omega arith))

pub others_none : (sets : List ℕ) (b : ℕ) → SameOthers sets sets b
others_none sets b = record { size = refl; rest = λ c h g. refl }

pub others_trans : (a r w : List ℕ) (b : ℕ) → SameOthers a r b → SameOthers r w b → SameOthers a w b
others_trans a r w b A B = record { size = B.size ∙ A.size; rest = λ c h g. B.rest c h g ∙ A.rest c h g }

-- ---- a row as it is joined pair by pair

-- f (pair, server) has joined for the pairs before j
pub record Part (a r : List ℕ) (at : ℕ) (f : ℕ → ℕ → Bool) (j : ℕ) : Type 0 where
  pub each : (y i : ℕ) → y < j → y < places → holds r (at + y) i ≡ (holds a (at + y) i || f y i)
  pub left : (y : ℕ) → j ≤ y → y < places → get_or r (at + y) 0 ≡ get_or a (at + y) 0

module _ (a : List ℕ) (at : ℕ) (f : ℕ → ℕ → Bool) where
  pub part_none : (j : ℕ) → ((y i : ℕ) → y < j → y < places → f y i ≡ false) → Part a a at f j
  part_none j e = record { each = λ y i l h. rw (e y i l h) (sym (or-false (holds a (at + y) i))); left = λ y l h. refl }

  -- one pair more
  pub part_more : (r : List ℕ) (j v : ℕ) → j < places → at + j < length r → ((i : ℕ) → bit i v ≡ f j i) → Part a r at f j
      → Part a (set r (at + j) (bit_or (get_or r (at + j) 0) v)) at f (j + 1)
  part_more r j v h g e P =
      let x = bit_or (get_or r (at + j) 0) v in
      record {
        each = λ y i l k. elim (ℕ_discrete y j) [
          | yes d ↦ rw (d, get_or-set_same r (at + j) x 0 g, bit_or_lem i (get_or r (at + j) 0) v, P.left j (omega arith) h, e i)
          | no d ↦ rw (get_or-set_other r (at + j) (at + y) x 0 (λ q. d (omega arith))) (P.each y i (omega arith) k)
        ];
        left = λ y l k. get_or-set_other r (at + j) (at + y) x 0 (λ q. omega arith) ∙ P.left y (omega arith) k;
      }

  -- the same, told of the cell and of its new set
  pub part_put : (r : List ℕ) (j v c x : ℕ) → c ≡ at + j → x ≡ bit_or (get_or r (at + j) 0) v → j < places → c < length r → ((i : ℕ) → bit i v ≡ f j i) → Part a r at f j
      → Part a (set r c x) at f (j + 1)
  part_put r j v c x q d h g e P = rw (q, d) (part_more r j v h (omega arith) e P)

  -- a cell of another row
  pub part_else : (r : List ℕ) (j c x : ℕ) → Outside at c → Part a r at f j → Part a (set r c x) at f j
  part_else r j c x o P = record {
    each = λ y i l k. rw (get_or-set_other r c (at + y) x 0 (λ q. elim o [ inl w ↦ omega arith | inr w ↦ omega arith ])) (P.each y i l k);
    left = λ y l k. get_or-set_other r c (at + y) x 0 (λ q. elim o [ inl w ↦ omega arith | inr w ↦ omega arith ]) ∙ P.left y l k;
  }

  -- all pairs
  pub part_all : (r : List ℕ) (j : ℕ) → Part a r at f j → (y i : ℕ) → y < places → (j ≤ y → f y i ≡ false) → holds r (at + y) i ≡ (holds a (at + y) i || f y i)
  part_all r j P y i h e = elim (dec_le j y) [
    | yes l ↦ rw (P.left y l h, e l) (sym (or-false (holds a (at + y) i)))
    | no l ↦ P.each y i (omega arith) h
  ]

  pub part_row : (m : ℕ) (r : List ℕ) (j : ℕ) → m ≤ places → Part a r at f j → ((y i : ℕ) → j ≤ y → y < m → f y i ≡ false)
      → row_of_sets m r at ≡ joined m (row_of_sets m a at) f
  part_row m r j h P e = fun_ext (λ y. fun_ext (λ i. known (ltb y m) _ _ _ (λ t. let l = ltb-true y m t in part_all r j P y i (omega arith) (λ k. e y i k l))))
    where
      known : (c x p q : Bool) → (c ≡ true → x ≡ p || q) → c && x ≡ (c && p) || (c && q)
      known true x p q d = d refl
      known false x p q d = refl

  -- what a known pair's cell will be
  pub joined_here : (m j x v : ℕ) → j < m → x ≡ get_or a (at + j) 0 → ((i : ℕ) → bit i v ≡ f j i) → joined m (row_of_sets m a at) f j ≡ (λ i. bit i (bit_or x v))
  joined_here m j x v h d e = fun_ext (λ i. rw (lt-ltb j m h, bit_or_lem i x v, d, e i))

-- the two cells of a pair
pub joined_both : (sets mid after : List ℕ) (at got : ℕ) → mid ≡ set sets at (bit_or (get_or sets at 0) got)
    → after ≡ set mid (recent_at + at) (bit_or (get_or mid (recent_at + at) 0) got)
    → after ≡ set (set sets at (bit_or (get_or sets at 0) got)) (recent_at + at) (bit_or (get_or sets (recent_at + at) 0) got)
joined_both sets mid after at got e d = d ∙ rw (e, get_or-set_other sets at (recent_at + at) (bit_or (get_or sets at 0) got) 0 (λ q. omega arith))

-- ---- what arrives lies in the row's span

module _ (work : List ℕ) (S : Spanned work) (row : ℕ) (l : row < rows) (y i : ℕ) (h : y < places) where
  none-outside : (low_of work row ≤ y → y < high_of work row → ⊥) → sender work row y i ≡ false
  none-outside out = elim (test (sender work row y i)) [
    | inl t ↦ let z = S.within row y i l h (T_eq _ t) in absurd (out z.0 z.1)
    | inr t ↦ F_eq (sender work row y i) t
  ]

  pub none_below : y < low_of work row → sender work row y i ≡ false
  none_below k = none-outside (λ u v. omega arith)

  pub none_beyond : high_of work row ≤ y → sender work row y i ≡ false
  none_beyond k = none-outside (λ u v. omega arith)

-- ---- a row is emptied

pub emptied : (sets r : List ℕ) (at : ℕ) → Zeroed sets r at (at + places) → Emptied sets r at
emptied sets r at Z = record {
  size = Z.size;
  each = λ j l. Z.zero (at + j) (omega arith) (omega arith);
  rest = λ c o. elim o [ inl l ↦ Z.below c l | inr l ↦ Z.above c l ];
}

-- both rows of a server
module _ (sets mid r : List ℕ) (b : ℕ) (h : b < 16) (A : Emptied sets mid (of_server b)) (B : Emptied mid r (recent_at + of_server b)) where
  pub reset_others : SameOthers sets r b
  reset_others = record { size = B.size ∙ A.size; rest = λ c o q. B.rest c q ∙ A.rest c o }

  pub reset_fresh : (m : ℕ) → m ≤ places → row_of_sets m r (of_server b) ≡ no_votes
  reset_fresh m k = zero_row m r (of_server b) k (λ j l. B.rest (of_server b + j) (inl (omega arith)) ∙ A.each j l)

  pub reset_recent : (m : ℕ) → m ≤ places → row_of_sets m r (recent_at + of_server b) ≡ no_votes
  reset_recent m k = zero_row m r (recent_at + of_server b) k B.each

-- ---- a new period

-- the cells of the last k periods are told, then those of the present one are zeroed
pub aged : (sets mid r : List ℕ) (end : ℕ) (two : Bool) → end ≤ recent_at → length mid ≡ length sets
    → ((c : ℕ) → c < end → get_or mid (recent_at + c) 0 ≡ cond two (get_or sets c 0) 0)
    → ((c : ℕ) → (c < recent_at) ⊎ (recent_at + end ≤ c) → get_or mid c 0 ≡ get_or sets c 0)
    → Zeroed mid r 0 end → Aged sets r end two
aged sets mid r end two h size recent rest Z = record {
  size = Z.size ∙ size;
  fresh = λ c l. Z.zero c (omega arith) l;
  recent = λ c l. Z.above (recent_at + c) (omega arith) ∙ recent c l;
  rest = λ c l o. Z.above c l ∙ rest c o;
}

pub aged_named : (sets r : List ℕ) (end : ℕ) (two : Bool) → Aged sets r end two → end ≤ recent_at → (c : ℕ) → named_at ≤ c → get_or r c 0 ≡ get_or sets c 0
aged_named sets r end two A h c l = A.rest c (omega arith) (inr (omega arith))
