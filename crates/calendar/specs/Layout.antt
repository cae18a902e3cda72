-- Where the calendar stands in the lent workspace. Receivers are the servers 0 .. 15 and the readers 16 .. 19; what arrives at receiver r in
-- tick t belongs to row 20 (t % 16) + r, for every message is under way for 1 to 15 ticks. In words of two bytes:
--    0  of each row 255 less the lowest pair that may arrive, and one more than the highest: one byte each, which only grow while messages are posted;
--       both 0 where nothing arrives, that is lowest 255 and one more than the highest 0
--  320  the servers whose messages with pair j arrive in the row, at 65 row + j
use Rattle.std.specs.Prelude.{Bool, List, ℕ, ◌+◌, ◌-◌, ◌*◌, ◌%◌, get_or}
use Rattle.limits.specs.Bits.{bit}
use Rattle.calendar.specs.Words.{word_of}
use Rattle.limits.specs.Limits.{most_servers, most_readers, places, no_pair}

-- the parties that receive votes or replies
abbrev pub receivers : ℕ
receivers = most_servers + most_readers

-- the ticks that have rows of their own at a time
abbrev pub slots : ℕ
slots = 16

abbrev pub rows : ℕ
rows = slots * receivers

-- reader y, from 1 on, receives as party readers_at + y
abbrev pub readers_at : ℕ
readers_at = most_servers - 1

-- the word at which the cells begin, behind the rows' spans
abbrev pub cells_at : ℕ
cells_at = rows

-- how many bytes the calendar takes
abbrev pub calendar_size : ℕ
calendar_size = 2 * (cells_at + rows * places)

abbrev pub row_of : ℕ → ℕ → ℕ
row_of t r = receivers * (t % slots) + r

abbrev pub cell_word : ℕ → ℕ → ℕ
cell_word row j = cells_at + (places * row + j)

-- ---- what the bytes say

abbrev pub low_of : List ℕ → ℕ → ℕ
low_of work row = no_pair - get_or work (2 * row) 0

abbrev pub high_of : List ℕ → ℕ → ℕ
high_of work row = get_or work (2 * row + 1) 0

abbrev pub senders_of : List ℕ → ℕ → ℕ → ℕ
senders_of work row j = word_of work (cell_word row j)

-- a message of server i with pair j arrives in the row
abbrev pub sender : List ℕ → ℕ → ℕ → ℕ → Bool
sender work row j i = bit i (senders_of work row j)
