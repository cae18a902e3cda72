-- What is posted: a server's vote, or what it keeps, to one row or to all other servers.
use Rattle.std.specs.Prelude.{◌≡◌, Bool, true, false, not, ◌&&◌, ◌||◌, List, [], ◌∷◌, ℕ, zero, suc, ◌+◌, ◌*◌, ◌-◌, ◌/◌, ◌%◌, ◌≤◌, ◌<◌, max, eqb, ltb, length, get_or, set}
use Rattle.calendar.specs.declared.Stamped.{Stamped}
use Rattle.tables.specs.declared.sending.Sending.{Sending}
use Rattle.tables.specs.Sending.{arrival_of}
use Rattle.calendar.specs.Layout.{receivers, high_of}
use Rattle.limits.specs.Limits.{places, no_pair}

abbrev pub Messages : Type 0
Messages = ℕ → ℕ → ℕ → Bool

-- server i's messages with the pairs of P, in one row
abbrev pub in_row : ℕ → ℕ → (ℕ → Bool) → Messages
in_row row i P x j k = eqb x row && (eqb k i && P j)

-- what is read past the end of a store
abbrev pub vacant : Stamped
vacant = record { number = 0; value = 0 }

-- of the first n places of the store, those before the first empty one hold pair j
unfoldable pub among_first : ℕ → List Stamped → ℕ → Bool
among_first zero ps j = false
among_first (suc n) [] j = false
among_first (suc n) (p ∷ ps) j = not (eqb p.number no_pair) && (eqb j p.number || among_first n ps j)

-- the store keeps pair j
abbrev pub among : List Stamped → ℕ → Bool
among kept j = among_first (length kept) kept j

-- what is sent goes to the row, if its receiver is one of the servers that it goes to
unfoldable pub due_in : Sending → ℕ → Bool
due_in s x = not (eqb (x % receivers) s.sender) && eqb (arrival_of s (x % receivers) % 16) (x / receivers)

-- the sender's messages with the pairs of P, to the first n servers but itself
abbrev pub to_first : Sending → ℕ → (ℕ → Bool) → Messages
to_first s n P x j k = ltb (x % receivers) n && (due_in s x && (eqb k s.sender && P j))

-- the same to all servers but itself
abbrev pub to_others : Sending → (ℕ → Bool) → Messages
to_others s P = to_first s s.n P

-- the pairs of P lie from low to before high, as closely as can be: where there are none, low is 255 and high 0
pub record SpanOf (P : ℕ → Bool) (low high : ℕ) : Type 0 where
  pub inside : (j : ℕ) → j < places → P j ≡ true → (low ≤ j) × (j < high)
  pub top : (m : ℕ) → ((j : ℕ) → j < places → P j ≡ true → j < m) → high ≤ m
  pub bottom : (m : ℕ) → m ≤ no_pair → ((j : ℕ) → j < places → P j ≡ true → m ≤ j) → m ≤ low

-- the bytes with the pairs from low to before high in the row's span, too
unfoldable pub widened : List ℕ → ℕ → ℕ → ℕ → List ℕ
widened work row low high = set (set work (2 * row) (max (get_or work (2 * row) 0) (no_pair - low))) (2 * row + 1) (max (high_of work row) high)
