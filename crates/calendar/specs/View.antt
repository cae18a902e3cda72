-- What the operations of the calendar do, said by what its bytes say before (a) and after (r).
use Rattle.std.specs.Prelude.{◌≡◌, Bool, true, false, not, ◌&&◌, ◌||◌, List, ℕ, ◌≤◌, ◌<◌, eqb, leb, ltb, length, get_or}
use Rattle.calendar.specs.Layout.{rows, calendar_size, low_of, high_of, sender}
use Rattle.limits.specs.Limits.{places, no_pair}

-- the bytes past the calendar stay
pub record SamePast (a r : List ℕ) : Type 0 where
  pub size : length r ≡ length a
  pub past : (k : ℕ) → calendar_size ≤ k → get_or r k 0 ≡ get_or a k 0

-- pair j is in the row's span
abbrev pub Inside : List ℕ → ℕ → ℕ → Type 0
Inside work x j = (low_of work x ≤ j) × (j < high_of work x)

-- the same as a test
abbrev pub covers : List ℕ → ℕ → ℕ → Bool
covers work x j = leb (low_of work x) j && ltb j (high_of work x)

-- what arrives lies in the spans
pub record Spanned (work : List ℕ) : Type 0 where
  pub top : (x : ℕ) → x < rows → high_of work x ≤ places
  pub within : (x j i : ℕ) → x < rows → j < places → sender work x j i ≡ true → Inside work x j

-- the messages of f (row, pair, sender) are posted: the spans grow as far as they must and no further
pub record Posted (a r : List ℕ) (f : ℕ → ℕ → ℕ → Bool) : Type 0 where
  pub rest : SamePast a r
  pub cells : (x j i : ℕ) → x < rows → j < places → sender r x j i ≡ (sender a x j i || f x j i)
  pub wider : (x j : ℕ) → x < rows → Inside a x j → Inside r x j
  pub grown : (x j i : ℕ) → x < rows → j < places → f x j i ≡ true → Inside r x j
  pub top : (x m : ℕ) → x < rows → high_of a x ≤ m → ((j i : ℕ) → j < places → f x j i ≡ true → j < m) → high_of r x ≤ m
  pub bottom : (x m : ℕ) → x < rows → m ≤ low_of a x → ((j i : ℕ) → j < places → f x j i ≡ true → m ≤ j) → m ≤ low_of r x
  pub still : (x : ℕ) → x < rows → ((j i : ℕ) → j < places → f x j i ≡ false) → (low_of r x ≡ low_of a x) × (high_of r x ≡ high_of a x)

-- all in the span of one row is taken
pub record Cleared (a r : List ℕ) (row : ℕ) : Type 0 where
  pub rest : SamePast a r
  pub cells : (x j i : ℕ) → x < rows → j < places → sender r x j i ≡ (not (eqb x row && covers a row j) && sender a x j i)
  pub low_here : low_of r row ≡ no_pair
  pub high_here : high_of r row ≡ 0
  pub low : (x : ℕ) → x < rows → (x ≡ row → ⊥) → low_of r x ≡ low_of a x
  pub high : (x : ℕ) → x < rows → (x ≡ row → ⊥) → high_of r x ≡ high_of a x

-- nothing is under way
pub record Empty (work : List ℕ) : Type 0 where
  pub low : (x : ℕ) → x < rows → low_of work x ≡ no_pair
  pub high : (x : ℕ) → x < rows → high_of work x ≡ 0
  pub cells : (x j i : ℕ) → x < rows → j < places → sender work x j i ≡ false

-- the bytes from one place to before another are 0, the others stay
pub record Zeroed (a r : List ℕ) (from to : ℕ) : Type 0 where
  pub size : length r ≡ length a
  pub zero : (k : ℕ) → from ≤ k → k < to → get_or r k 0 ≡ 0
  pub below : (k : ℕ) → k < from → get_or r k 0 ≡ get_or a k 0
  pub above : (k : ℕ) → to ≤ k → get_or r k 0 ≡ get_or a k 0
