-- What single steps of the code find: the delays of a row, of a tick and of a byte.
use Rattle.std.specs.Prelude.{◌≡◌, Bool, cond, List, ℕ, ◌+◌, ◌*◌, ◌/◌, ◌%◌, ◌<◌, eqb, get_or}
use Rattle.bits.specs.Field.{field_of}
use Rattle.register.specs.Lists.{one_if, all_up_to}
use Rattle.plan.specs.Header.{Header, delay_bits, parties}
use Rattle.plan.specs.Parts.{is_link}
use Rattle.plan.specs.Check.{within}

-- may the link from party i to party j have the delay d
abbrev pub delay_allowed : Header → ℕ → ℕ → ℕ → Bool
delay_allowed h i j d = cond (is_link h.n i j) (within 1 h.delta d) (eqb d 0)

-- the delay from party i to party j, in the row that begins at bit `at`
abbrev pub link_stands : List ℕ → Header → ℕ → ℕ → ℕ → Bool
link_stands s h at i j = delay_allowed h i j (field_of s (at + delay_bits * j) delay_bits)

-- the row of party i
unfoldable pub row_stands : List ℕ → Header → ℕ → ℕ → Bool
row_stands s h at i = all_up_to (parties h) (link_stands s h at i)

-- the row of party i, in the tick that begins at bit `at`
abbrev pub sender_stands : List ℕ → Header → ℕ → ℕ → Bool
sender_stands s h at i = row_stands s h (at + delay_bits * (i * parties h)) i

-- the rows of a tick
unfoldable pub tick_stands : List ℕ → Header → ℕ → Bool
tick_stands s h at = all_up_to (parties h) (sender_stands s h at)

-- delay q of a tick, in the order of its rows: 1 where it is of a link
unfoldable pub link_mark : ℕ → ℕ → ℕ → ℕ
link_mark n p q = one_if (is_link n (q / p) (q % p))

-- the same of delays 2k and 2k + 1, as the two nibbles of a byte
unfoldable pub need_of : ℕ → ℕ → ℕ → ℕ
need_of n p k = 16 * link_mark n p (2 * k) + link_mark n p (2 * k + 1)

-- of 21 parties at most
abbrev pub most_pairs : ℕ
most_pairs = 21 * 21 / 2

-- a table of the first `bytes` of them
abbrev pub Needed : ℕ → ℕ → ℕ → List ℕ → Type 0
Needed n p bytes table = (k : ℕ) → k < bytes → get_or table k 0 ≡ need_of n p k

-- may a delay be d where the link's bit is this
unfoldable pub bit_stands : ℕ → ℕ → ℕ → Bool
bit_stands bit delta d = cond (eqb bit 1) (within 1 delta d) (eqb d 0)

-- delay q of the tick that begins at bit `at`
abbrev pub order_stands : List ℕ → Header → ℕ → ℕ → Bool
order_stands s h at q = delay_allowed h (q / parties h) (q % parties h) (field_of s (at + delay_bits * q) delay_bits)

-- its first m delays
unfoldable pub first_stand : List ℕ → Header → ℕ → ℕ → Bool
first_stand s h at m = all_up_to m (order_stands s h at)
