-- What the tests of Check ask of the longest plan's lists, computed: each looks at a few numbers.
-- It stands on the definition of the plan.
use mathlib.Core.Path.{◌≡◌, refl}
use mathlib.Core.Bool.{Bool, true, not, ◌&&◌, ◌||◌}
use Prim.Native.Nat.{ℕ, ◌+◌, ◌*◌, ◌-◌, ◌/◌, ◌%◌, ◌^◌}
use lib.Dec.{leb, ltb, eqb}
use Rattle.bits.specs.Fill.{bytes_for}
use Rattle.register.specs.Lists.{all_up_to, count}
use Rattle.register.specs.Plan.{k_of}
use Rattle.plan.specs.Header.{Header, header_from, moves, bit_length}
use Rattle.plan.specs.Limits.{implied_bytes}
use Rattle.plan.specs.Parts.{Operation, operation_from}
use Rattle.plan.specs.Check.{header_in_range, enough_servers, end_of}
use Rattle.longest.specs.Longest.{begun_at, party_of, operation_numbers, longest_lists}

abbrev pub header : Header
header = header_from longest_lists.header

pub in_range : header_in_range header ≡ true
unfolding header_in_range
in_range = refl

pub enough : enough_servers header ≡ true
unfolding enough_servers k_of
enough = refl

pub as_many_moves : moves header ≡ 128
unfolding moves
as_many_moves = refl

-- The header with the most operations implies the most bytes, in form two.
abbrev pub widest : Header
widest = record {
  n = 16;
  f = 1;
  delta = 1;
  period = 1;
  readers = 4;
  ticks = 128;
  initial = 0;
  operations = 255;
  forgeries = 1024;
  zero_bit = 0;
}

pub implied_reached : (header_in_range widest ≡ true) × (bytes_for (bit_length 24 widest) ≡ implied_bytes)
unfolding header_in_range moves
implied_reached = (refl, refl)

-- one faulty server
pub one_faulty : count (λ b. eqb (0x8000 / 2 ^ (15 - b) % 2) 1) 16 ≡ 1
unfolding count
one_faulty = refl

-- operation i, and its place in the order
abbrev pub operation : ℕ → Operation
operation i = operation_from (operation_numbers i)

abbrev pub key : ℕ → ℕ
key i = begun_at i * 8 + party_of i

-- its tick and its party fit
unfoldable pub narrow : ℕ → Bool
narrow i = ltb (begun_at i) 128 && ltb (party_of i) 8

pub all_narrow : all_up_to 232 narrow ≡ true
unfolding all_up_to narrow begun_at party_of
all_narrow = refl

unfoldable pub stands : ℕ → Bool
stands i =
    leb (party_of i) 4
    && (ltb (end_of header (operation i)) 128
    && ((eqb i 0 || ltb (key (i - 1)) (key i))
    && all_up_to i (λ j. not (eqb (party_of j) (party_of i)) || ltb (end_of header (operation j)) (begun_at i))))

pub all_stand : all_up_to 232 stands ≡ true
unfolding all_up_to stands end_of begun_at party_of
all_stand = refl

pub reads : count (λ j. not (eqb (party_of j) 0)) 232 ≡ 168
unfolding count party_of
reads = refl
