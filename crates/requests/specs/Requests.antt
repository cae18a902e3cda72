-- Where the requests stand in the lent workspace, behind the calendar, and what the operations on them do. In words of two bytes: the servers that the
-- request of party p reaches in tick t, at 8 (t % 16) + p. The writer is party 0 here, reader x is party x.
use Rattle.std.specs.Prelude.{◌≡◌, Bool, false, not, ◌&&◌, ◌||◌, List, ℕ, ◌+◌, ◌*◌, ◌/◌, ◌%◌, ◌≤◌, ◌<◌, eqb, ltb, length, get_or}
use Rattle.tables.specs.declared.sending.Sending.{Sending}
use Rattle.limits.specs.Bits.{bit}
use Rattle.calendar.specs.Words.{word_of}
use Rattle.calendar.specs.Layout.{slots, calendar_size}
use Rattle.tables.specs.Sending.{arrival_of}

-- how many parties have room
abbrev pub party_slots : ℕ
party_slots = 8

-- the word at which they begin
abbrev pub requests_at : ℕ
requests_at = calendar_size / 2

-- the byte behind them
abbrev pub requests_end : ℕ
requests_end = calendar_size + 2 * slots * party_slots

abbrev pub request_word : ℕ → ℕ → ℕ
request_word t p = requests_at + (party_slots * (t % slots) + p)

abbrev pub reached_of : List ℕ → ℕ → ℕ → ℕ
reached_of work t p = word_of work (request_word t p)

-- the request of party p reaches server b in tick t
abbrev pub reached_by : List ℕ → ℕ → ℕ → ℕ → Bool
reached_by work t p b = bit b (reached_of work t p)

-- the bytes behind the requests stay
pub record SameBehind (a r : List ℕ) : Type 0 where
  pub size : length r ≡ length a
  pub behind : (k : ℕ) → requests_end ≤ k → get_or r k 0 ≡ get_or a k 0

-- the bytes before them, too
pub record SameOutside (a r : List ℕ) : Type 0 where
  pub rest : SameBehind a r
  pub before : (k : ℕ) → k < calendar_size → get_or r k 0 ≡ get_or a k 0

-- a request of party p to the first n servers
abbrev pub asked_first : Sending → ℕ → ℕ → ℕ → ℕ → ℕ → Bool
asked_first s p n t q b = ltb b n && (eqb q p && eqb (arrival_of s b % slots) (t % slots))

-- the requests of g (tick, party, server) are under way, too
pub record Asked (a r : List ℕ) (g : ℕ → ℕ → ℕ → Bool) : Type 0 where
  pub outside : SameOutside a r
  pub requests : (t p b : ℕ) → p < party_slots → reached_by r t p b ≡ (reached_by a t p b || g t p b)

-- those of tick t no longer are
pub record Taken (a r : List ℕ) (t : ℕ) : Type 0 where
  pub outside : SameOutside a r
  pub requests : (u p b : ℕ) → p < party_slots → reached_by r u p b ≡ (not (eqb (u % slots) (t % slots)) && reached_by a u p b)

-- none is
pub record Unasked (work : List ℕ) : Type 0 where
  pub requests : (t p b : ℕ) → p < party_slots → reached_by work t p b ≡ false
