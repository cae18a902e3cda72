-- A plan that has the most bytes of its form, packed from its lists: n = 16, f = 1, δ = Δ = 1, four readers, 128 ticks, 232 operations and 1,024 forgeries.
use Rattle.std.specs.Prelude.{List, [], ◌∷◌, ℕ, ◌+◌, ◌*◌, ◌/◌, ◌%◌, get_or}
use Rattle.register.specs.Lists.{one_if, flat}
use Rattle.plan.specs.Parts.{is_link}
use Rattle.lists.specs.Lists.{Lists, packed_plan}

-- Eleven operations in six ticks: the writer writes in ticks 0, 2 and 4 of them, each reader reads in ticks 0 and 3.
unfoldable pub begun_at : ℕ → ℕ
begun_at i = 6 * (i / 11) + get_or (0 ∷ 0 ∷ 0 ∷ 0 ∷ 0 ∷ 2 ∷ 3 ∷ 3 ∷ 3 ∷ 3 ∷ 4 ∷ []) (i % 11) 0

unfoldable pub party_of : ℕ → ℕ
party_of i = i % 11 % 5

-- delay q, in the order of ticks, senders and receivers: 1 on a link
unfoldable pub delay_in : ℕ → ℕ
delay_in q = one_if (is_link 16 (q / 21 % 21) (q % 21))

-- The numbers of each record. Server 0 is faulty in every period.
abbrev pub placement_numbers : ℕ → List ℕ
placement_numbers i = 0x8000 ∷ []

-- the value is 0
abbrev pub operation_numbers : ℕ → List ℕ
operation_numbers i = begun_at i ∷ party_of i ∷ 0 ∷ []

-- in each tick server 0 sends a forged vote to servers 1 to 8
abbrev pub forgery_numbers : ℕ → List ℕ
forgery_numbers i = i / 8 ∷ 0 ∷ (i % 8 + 1) ∷ 0 ∷ 0 ∷ []

abbrev pub delay_numbers : ℕ → List ℕ
delay_numbers q = delay_in q ∷ []

abbrev pub longest_lists : Lists
longest_lists = record {
  header = 16 ∷ 1 ∷ 1 ∷ 1 ∷ 4 ∷ 128 ∷ 0 ∷ 232 ∷ 1024 ∷ 0 ∷ [];
  placements = flat 128 placement_numbers;
  operations = flat 232 operation_numbers;
  forgeries = flat 1024 forgery_numbers;
  delays = flat 56448 delay_numbers;
}

-- with values of w bits; the lists are the same in every form, since all values are 0
unfoldable pub longest_plan : ℕ → List ℕ
longest_plan w = packed_plan w longest_lists
