-- Where a forged message goes, and what the forged messages of a tick post: what the plan's list says of this tick.
-- It stands on the calendar's laws of posting.
use mathlib.Core.Path.{◌≡◌}
use mathlib.Core.Bool.{false, ◌&&◌, or_comm, or-false}
use mathlib.Core.Logic.{◌⊎◌, inl, inr}
use mathlib.Core.List.{List}
use Prim.Native.Nat.{ℕ, ◌+◌, ◌*◌, ◌-◌, ◌%◌, ◌≤◌, ◌<◌}
use native.Mathlib.Omega.{arith}
use native.Mathlib.Numerals.{add-one}
use lib.Dec.{T, eqb, leb, ltb, eqb→eq, eqb_refl, leb→le, ltb→lt}
use lib.ListN.{get_or}
use borrow.Author.Tests.{lt-ltb, le-ltb, le-leb, lt-leb}
use Rattle.register.specs.Lists.{any_up_to}
use Rattle.register.proofs.Logic.{and_l, and_r, or_e}
use Rattle.register.proofs.Counting.{none_up}
use Rattle.calendar.specs.Layout.{row_of}
use Rattle.calendar.specs.View.{SamePast, Posted}
use Rattle.calendar.specs.Posts.{in_row}
use Rattle.calendar.proofs.Posting.{posted_eq, posted_trans, posted_none}
use Rattle.forging.specs.Entries.{entries_at, entry_at}
use Rattle.forging.specs.Forging.{goes_to, forged_entry, forges}

module _ (ends : List ℕ) (n q a x : ℕ) where
  pub goes_server : q < n → goes_to ends n q a x ≡ eqb x (row_of a q)
  unfolding goes_to
  goes_server h = rw (lt-ltb q n h, le-ltb n q (omega arith)) (or-false (eqb x (row_of a q)))

  pub goes_writer : n ≤ q → q ≤ n → goes_to ends n q a x ≡ false
  unfolding goes_to
  goes_writer h l = rw (le-ltb q n h, le-ltb n q l)

  pub goes_nowhere : n < q → 4 < q - n → goes_to ends n q a x ≡ false
  unfolding goes_to
  goes_nowhere h l = rw (le-ltb q n (omega arith), lt-ltb n q h, lt-leb (q - n) 4 l)

  pub goes_late : n < q → q - n ≤ 4 → get_or ends (q - n - 1) 0 < a → goes_to ends n q a x ≡ false
  unfolding goes_to
  goes_late h l m = rw (le-ltb q n (omega arith), lt-ltb n q h, le-leb (q - n) 4 l, lt-leb a (get_or ends (q - n - 1) 0) m)

  pub goes_reader : n < q → q - n ≤ 4 → a ≤ get_or ends (q - n - 1) 0 → goes_to ends n q a x ≡ eqb x (row_of a (15 + (q - n)))
  unfolding goes_to
  goes_reader h l m = rw (le-ltb q n (omega arith), lt-ltb n q h, le-leb (q - n) 4 l, le-leb a (get_or ends (q - n - 1) 0) m)

-- ---- one entry, and the entries of a tick

module _ (ends : List ℕ) (n : ℕ) (work : List ℕ) (e : ℕ) where
  pub entry_posted : (r : List ℕ) (row i number q a : ℕ) → q ≡ entry_at work e 2 → a ≡ entry_at work e 1 → i ≡ entry_at work e 3 → number ≡ entry_at work e 4
      → ((x : ℕ) → goes_to ends n q a x ≡ eqb x row) → Posted work r (in_row row i (λ y. eqb y number)) → Posted work r (forged_entry ends n work e)
  entry_posted r row i number q a eq ea ei en goes P =
      posted_eq work r _ (forged_entry ends n work e) P (λ x j k l m. rw (← eq, ← ea, ← ei, ← en, goes x))

  pub entry_none : (q a : ℕ) → q ≡ entry_at work e 2 → a ≡ entry_at work e 1 → ((x : ℕ) → goes_to ends n q a x ≡ false) → Posted work work (forged_entry ends n work e)
  entry_none q a eq ea goes = posted_none work (forged_entry ends n work e) (λ x j k l m. rw (← eq, ← ea, goes x))

pub entry_still : (a r : List ℕ) (e k : ℕ) → SamePast a r → entry_at r e k ≡ entry_at a e k
entry_still a r e k P = P.past (entries_at + 8 * e + k) (omega arith)

module _ (ends : List ℕ) (n : ℕ) (a : List ℕ) (from : ℕ) where
  pub forges_none : Posted a a (forges ends n a from from)
  forges_none = posted_none a (forges ends n a from from) (λ x j k l m. none_up from _ (λ e b. rw (lt-leb from e b)))

  pub forges_more : (r w : List ℕ) (e : ℕ) → from ≤ e → Posted a r (forges ends n a from e) → Posted r w (forged_entry ends n r e)
      → Posted a w (forges ends n a from (e + 1))
  unfolding any_up_to
  forges_more r w e h P Q =
      posted_eq a w _ (forges ends n a from (e + 1)) (posted_trans a r w _ _ P Q)
      (λ x j k l m.
      rw (
        entry_still a r e 1 P.rest,
        entry_still a r e 2 P.rest,
        entry_still a r e 3 P.rest,
        entry_still a r e 4 P.rest,
        add-one e,
        le-leb from e h,
      )
      (or_comm (forges ends n a from e x j k) (forged_entry ends n a e x j k)))

-- ---- the rows of the sixteen ticks after t

-- a row that it goes to is the receiver's, and a reader is still there
goes_row : (ends : List ℕ) (n q a x : ℕ) → T (goes_to ends n q a x)
    → ((q < n) × (x ≡ row_of a q)) ⊎ ((n < q) × (q - n ≤ 4) × (a ≤ get_or ends (q - n - 1) 0) × (x ≡ row_of a (15 + (q - n))))
unfolding goes_to
goes_row ends n q a x h = elim (or_e (ltb q n && eqb x (row_of a q)) _ h) [
  | inl y ↦ inl (ltb→lt q n (and_l (ltb q n) _ y), eqb→eq x (row_of a q) (and_r (ltb q n) _ y))
  | inr y ↦ (
      let z = and_r (ltb n q) _ y in
      let w = and_r (leb (q - n) 4) _ z in
      let u = get_or ends (q - n - 1) 0 in
      inr (
        ltb→lt n q (and_l (ltb n q) _ y),
        leb→le (q - n) 4 (and_l (leb (q - n) 4) _ z),
        leb→le a u (and_l (leb a u) _ w),
        eqb→eq x (row_of a (15 + (q - n))) (and_r (leb a u) _ w),
      )
      )
]

rows_apart : (s a y z : ℕ) → y ≤ 4 → z ≤ 4 → row_of s (15 + y) ≡ row_of a (15 + z) → (z ≡ y) × (a % 16 ≡ s % 16)
rows_apart s a y z h l e = (omega arith, omega arith)

module _ (ends : List ℕ) (n t q a s : ℕ) (few : n ≤ 16) (after : t < a) (within : a ≤ t + 15) (later : t < s) (seen : s ≤ t + 16) where
  module _ (b : ℕ) (server : b < n) where
    pub server_row : T (goes_to ends n q a (row_of s b)) → (q ≡ b) × (a ≡ s)
    server_row h = elim (goes_row ends n q a (row_of s b) h) [ inl (l, e) ↦ (omega arith, omega arith) | inr (l, m, d, e) ↦ absurd (omega arith) ]

  slots_apart : a % 16 ≡ s % 16 → a ≡ s
  slots_apart e = omega arith

  module _ (y : ℕ) (first : 1 ≤ y) (last : y ≤ 4) where
    pub reader_row : T (goes_to ends n q a (row_of s (15 + y))) → (q ≡ n + y) × (a ≡ s) × (s ≤ get_or ends (y - 1) 0)
    reader_row h = elim (goes_row ends n q a (row_of s (15 + y)) h) [
      | inl (l, e) ↦ absurd (omega arith)
      | inr (l, m, d, e) ↦ (
          let (qy, slot) = rows_apart s a y (q - n) last m e in
          let same : a ≡ s = slots_apart slot in
          (omega arith, same, rw (qy, same) at d)
          )
    ]

module _ (ends : List ℕ) (n s : ℕ) where
  pub row_server : (b : ℕ) → b < n → T (goes_to ends n b s (row_of s b))
  row_server b h = rw (goes_server ends n b s (row_of s b) h) (eqb_refl (row_of s b))

  pub row_reader : (y : ℕ) → 1 ≤ y → y ≤ 4 → s ≤ get_or ends (y - 1) 0 → T (goes_to ends n (n + y) s (row_of s (15 + y)))
  row_reader y l h m =
      let e : n + y - n ≡ y = omega arith in
      rw (goes_reader ends n (n + y) s (row_of s (15 + y)) (omega arith) (omega arith) (rw e m), e) (eqb_refl (row_of s (15 + y)))
