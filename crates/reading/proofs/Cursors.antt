-- Reads by their cursors: the reads of a range, the answers placed one by one, the readers' ends and rows set up one by one.
-- It stands on the definitions alone.
use mathlib.Core.Path.{◌≡◌, refl, ap, ◌∙◌}
use mathlib.Core.List.{List, [], ◌++◌, append-nil}
use Prim.Native.Nat.{ℕ, zero, suc, ◌+◌, ◌-◌, ◌≤◌, ◌<◌}
use native.Mathlib.Nat.{zero-mul}
use native.Mathlib.Omega.{arith}
use native.Mathlib.Decide.{dec_le, ℕ_discrete}
use lib.ListN.{length, get_or, set, take, drop, length-set, length-drop, drop_of_length-le}
use lib.Seq.{get_or-set_same, get_or-set_other}
use mathlib.Core.Bool.{false}
use mathlib.Core.Logic.{inl, inr}
use borrow.Rule.Slice.PartMut.{put_mid}
use borrow.Author.Tests.{lt-ltb, ltb-false}
use Rattle.register.specs.Plan.{stamped}
use Rattle.tables.specs.{declared.Known.Known, Known.pair_at}
use Rattle.limits.specs.Limits.{places}
use Rattle.tallies.specs.Tallies.{of_reader, Outside, Emptied}
use Rattle.std.specs.Prelude.{Some, None}
use Rattle.reading.specs.declared.Choice.{Choice}
use Rattle.reading.specs.Choosing.{answer_by}
use Rattle.reading.specs.Reading.{Until, is_before, placed_at, placed, begun_by, SetUp}

-- ---- cursors

module _ (begun : List ℕ) (m : ℕ) where
  pub until_none : (u : ℕ) → u ≡ 0 → Until begun m 0 u 0
  until_none u e = record { from = omega arith; few = omega arith; below = λ i a b. absurd (omega arith); next = λ h. omega arith }

  pub until_more : (u v k r : ℕ) → u ≤ v → Until begun m 0 u k → Until begun m k v r → Until begun m 0 v r
  until_more u v k r h A B = record {
    from = omega arith;
    few = B.few;
    below = λ i a b. elim (dec_le k i) [ yes c ↦ B.below i c b | no c ↦ omega (arith, A.below i (omega arith) (omega arith)) ];
    next = B.next;
  }

  -- read k is not due yet
  pub until_still : (k u : ℕ) → k ≤ m → is_before begun m k u ≡ false → Until begun m k u k
  until_still k u h e = record { from = omega arith; few = h; below = λ i a b. absurd (omega arith); next = λ l. ltb-false (get_or begun k 0) u (rw (lt-ltb k m l) at e) }

-- ---- answers

pub answer_none : (w : ℕ) (g : ℕ → ℕ) → answer_by g None ≡ record { pair = stamped w 0 0; count = 0 }
unfolding answer_by stamped
answer_none w g = rw zero-mul

pub answer_found : (w : ℕ) (known : Known) (c : Choice)
    → answer_by (pair_at w known) (Some c) ≡ record { pair = stamped w (get_or known.values c.number 0) c.number; count = c.count }
unfolding answer_by
answer_found w known c = refl

-- the whole, when the part from place a on comes back from a callee
pub part_back : (a : ℕ) (s t : List ℕ) → put_mid a (length s - a) s t ≡ take a s ++ t
part_back a s t =
    let e : drop (length s - a) (drop a s) ≡ [] = drop_of_length-le (drop a s) {i = length s - a} (rw length-drop (omega arith)) in
    rw e (ap (λ (r : List ℕ). take a s ++ r) (append-nil t))

pub placed_none : (w : ℕ) (f : ℕ → List ℕ) (k : ℕ) (b : List ℕ) → b ≡ placed w f k (k - k) b
unfolding placed
placed_none w f k b = let z : k - k ≡ 0 = omega arith in rw z

pub placed_more : (w : ℕ) (f : ℕ → List ℕ) (k i : ℕ) (b a r : List ℕ) → k ≤ i → a ≡ placed w f k (i - k) b → r ≡ placed_at w i (f i) a → r ≡ placed w f k (i + 1 - k) b
unfolding placed
placed_more w f k i b a r h e q =
    let z : i + 1 - k ≡ suc (i - k) = omega arith in
    let y : k + (i - k) ≡ i = omega arith in
    rw (z, y, ← e) q

pub placed_same : (w : ℕ) (f g : ℕ → List ℕ) (k n : ℕ) (b : List ℕ) → ((i : ℕ) → k ≤ i → i < k + n → f i ≡ g i) → placed w f k n b ≡ placed w g k n b
unfolding placed
placed_same w f g k zero b h = refl
placed_same w f g k (suc n) b h = rw (h (k + n) (omega arith) (omega arith), placed_same w f g k n b (λ i a l. h i a (omega arith)))

pub placed_on : (w : ℕ) (f : ℕ → List ℕ) (a k n : ℕ) (b : List ℕ) → placed w f (a + k) n (placed w f a k b) ≡ placed w f a (k + n) b
unfolding placed
placed_on w f a k zero b = let z : k + 0 ≡ k = omega arith in rw z
placed_on w f a k (suc n) b =
    let z : k + suc n ≡ suc (k + n) = omega arith in
    let y : a + k + n ≡ a + (k + n) = omega arith in
    rw (z, y, placed_on w f a k n b)

-- ---- begins

module _ (by : List ℕ) (end k : ℕ) (rs : List ℕ) where
  pub begun_size : (n : ℕ) → length (begun_by by end k n rs) ≡ length rs
  unfolding begun_by
  begun_size zero = refl
  begun_size (suc n) = length-set (begun_by by end k n rs) _ _ ∙ begun_size n

  pub begun_none : rs ≡ begun_by by end k (k - k) rs
  unfolding begun_by
  begun_none = let z : k - k ≡ 0 = omega arith in rw z

  pub begun_other : (x n : ℕ) → ((i : ℕ) → k ≤ i → i < k + n → x ≡ get_or by i 0 - 1 → ⊥) → get_or (begun_by by end k n rs) x 0 ≡ get_or rs x 0
  unfolding begun_by
  begun_other x zero h = refl
  begun_other x (suc n) h =
      get_or-set_other (begun_by by end k n rs) (get_or by (k + n) 0 - 1) x end 0 (h (k + n) (omega arith) (omega arith)) ∙ begun_other x n (λ i a l. h i a (omega arith))

  pub begun_there : (x n i : ℕ) → k ≤ i → i < k + n → x ≡ get_or by i 0 - 1 → x < length rs → get_or (begun_by by end k n rs) x 0 ≡ end
  unfolding begun_by
  begun_there x zero i a l e h = absurd (omega arith)
  begun_there x (suc n) i a l e h = elim (ℕ_discrete x (get_or by (k + n) 0 - 1)) [
    | yes d ↦ rw (← d) (get_or-set_same (begun_by by end k n rs) x end 0 (omega (arith, begun_size n)))
    | no d ↦ (
        let z : i < k + n = elim (ℕ_discrete i (k + n)) [ yes z ↦ absurd (d (rw z at e)) | no z ↦ omega arith ] in
        get_or-set_other (begun_by by end k n rs) (get_or by (k + n) 0 - 1) x end 0 d ∙ begun_there x n i a z e h
        )
  ]

  pub begun_more : (i : ℕ) (a r : List ℕ) → k ≤ i → a ≡ begun_by by end k (i - k) rs → r ≡ set a (get_or by i 0 - 1) end → r ≡ begun_by by end k (i + 1 - k) rs
  unfolding begun_by
  begun_more i a r h e q =
      let z : i + 1 - k ≡ suc (i - k) = omega arith in
      let y : k + (i - k) ≡ i = omega arith in
      rw (z, y, ← e) q

-- the rows of the table
module _ (by : List ℕ) (k : ℕ) (sets : List ℕ) where
  pub set_up_none : SetUp by k (k - k) sets sets
  set_up_none = record { size = refl; votes = λ c l. refl; none = λ i a l. absurd (omega arith); rest = λ x h j l. refl }

  -- the row of the reader of read i is emptied
  pub set_up_more : (i : ℕ) (a r : List ℕ) → k ≤ i → SetUp by k (i - k) sets a → Emptied a r (of_reader (get_or by i 0 - 1)) → SetUp by k (i + 1 - k) sets r
  set_up_more i a r h S E = record {
    size = E.size ∙ S.size;
    votes = λ c l. E.rest c (inl (omega arith)) ∙ S.votes c l;
    none = λ u lo hi j l. elim (ℕ_discrete (get_or by u 0 - 1) (get_or by i 0 - 1)) [
      | yes e ↦ rw e (E.each j l)
      | no d ↦ E.rest (of_reader (get_or by u 0 - 1) + j) (apart (get_or by u 0 - 1) (get_or by i 0 - 1) j l d)
          ∙ S.none u lo (elim (ℕ_discrete u i) [ yes e ↦ absurd (d (ap (λ (v : ℕ). get_or by v 0 - 1) e)) | no e ↦ omega arith ]) j l
    ];
    rest = λ x q j l. E.rest (of_reader x + j) (apart x (get_or by i 0 - 1) j l (q i h (omega arith))) ∙ S.rest x (λ u lo hi. q u lo (omega arith)) j l;
  }
    where
      -- the rows of two readers share no cell
      apart : (x y j : ℕ) → j < places → (x ≡ y → ⊥) → Outside (of_reader y) (of_reader x + j)
      apart x y j l d = elim (dec_le x y) [ yes h ↦ inl (omega arith) | no h ↦ inr (omega arith) ]
