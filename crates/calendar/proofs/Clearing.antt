-- What is left of a row's cells while they are emptied, and when the row is cleared; that nothing is left when all is zeroed.
use mathlib.Core.Path.{◌≡◌, refl, ap, ◌∙◌}
use mathlib.Core.Bool.{Bool, true, false, not, ◌&&◌, and_comm}
use mathlib.Core.List.{List}
use Prim.Native.Nat.{ℕ, ◌+◌, ◌*◌, ◌-◌, ◌/◌, ◌%◌, ◌≤◌, ◌<◌, max}
use native.Mathlib.Omega.{arith}
use native.Mathlib.Decide.{ℕ_discrete, dec_le}
use lib.Dec.{eqb, ltb, leb}
use lib.ListN.{length, get_or}
use borrow.Author.Tests.{lt-ltb, le-ltb, le-leb, leb-true, eq-eqb, ne_eqb}
use Rattle.register.proofs.Logic.{eqb_comm}
use Rattle.calendar.specs.Words.{put_word}
use Rattle.calendar.specs.Layout.{calendar_size, cells_at, rows, cell_word, low_of, high_of, sender, receivers, row_of}
use Rattle.limits.specs.Limits.{places, no_pair}
use Rattle.calendar.specs.View.{SamePast, Cleared, Empty, Zeroed}
use Rattle.calendar.proofs.Laws.{under, never, put_length, put_byte, put_other, put_none, put_low, put_high, zeroed_word}
use Rattle.limits.proofs.Bits.{bit_zero}
use Rattle.calendar.proofs.Posting.{same_cell}
use Rattle.calendar.proofs.Stores.{same_row}

-- the cells of the row with the pairs from `from` to before `to` are emptied
pub record EmptiedTo (a r : List ℕ) (row from to : ℕ) : Type 0 where
  pub rest : SamePast a r
  pub front : (k : ℕ) → k < 2 * cells_at → get_or r k 0 ≡ get_or a k 0
  pub cells : (x j i : ℕ) → x < rows → j < places → sender r x j i ≡ not (eqb x row && (leb from j && ltb j to)) && sender a x j i

-- no number is from b on and below b
pub no_number : (b y : ℕ) → leb b y && ltb y b ≡ false
no_number b y = never (leb b y) _ (λ e. le-ltb y b (leb-true b y e))

-- one pair more is out
out_more : (p : Bool) (from at y : ℕ) (s : Bool) → from ≤ at
    → not (p && eqb y at) && (not (p && (leb from y && ltb y at)) && s) ≡ not (p && (leb from y && ltb y (at + 1))) && s
out_more false from at y s h = refl
out_more true from at y s h = elim (ℕ_discrete y at) [
  | yes e ↦ rw (eq-eqb y at e, le-leb from y (omega arith), lt-ltb y (at + 1) (omega arith))
  | no d ↦ rw (ne_eqb y at d) (elim (dec_le y at) [
    | yes l ↦ rw (lt-ltb y at (omega arith), lt-ltb y (at + 1) (omega arith))
    | no l ↦ rw (le-ltb y at (omega arith), le-ltb y (at + 1) (omega arith))
  ])
]

-- of the rows of a tick, that of one receiver more is out
pub row_more : (t from b x : ℕ) (s : Bool) → x < rows → from ≤ b → b < receivers
    → not (eqb x (row_of t b)) && (not (eqb (x / receivers) (t % 16) && (leb from (x % receivers) && ltb (x % receivers) b)) && s)
    ≡ not (eqb (x / receivers) (t % 16) && (leb from (x % receivers) && ltb (x % receivers) (b + 1))) && s
row_more t from b x s h l g =
    rw (same_row x t b h g, and_comm (eqb (x % receivers) b) (eqb (t % 16) (x / receivers)), eqb_comm (t % 16) (x / receivers))
    (out_more (eqb (x / receivers) (t % 16)) from b (x % receivers) s l)

pub emptied_more : (a r : List ℕ) (row from at : ℕ) → row < rows → at < places → from ≤ at → calendar_size ≤ length r → EmptiedTo a r row from at
    → EmptiedTo a (put_word r (cell_word row at) 0) row from (at + 1)
emptied_more a r row from at hr ha hf size E = record {
  rest = record {
    size = put_length r (cell_word row at) 0 ∙ E.rest.size;
    past = λ k l. put_byte r (cell_word row at) 0 k (λ e. omega arith) (λ e. omega arith) ∙ E.rest.past k l;
  };
  front = λ k l. put_byte r (cell_word row at) 0 k (λ e. omega arith) (λ e. omega arith) ∙ E.front k l;
  cells = λ x j i l m. put_none r (cell_word row at) (cell_word x j) i (omega arith)
      ∙ rw (same_cell x row j at m ha, E.cells x j i l m) (out_more (eqb x row) from at j (sender a x j i) hf);
}

-- the pairs from `from` on below the later of two numbers
later : (from to y : ℕ) → leb from y && ltb y (max from to) ≡ leb from y && ltb y to
later from to y = under (leb from y) _ _ (λ e. let h = leb-true from y e in elim (dec_le to y) [
  | yes l ↦ rw (le-ltb y to l, le-ltb y (max from to) (omega arith))
  | no l ↦ rw (lt-ltb y to (omega arith), lt-ltb y (max from to) (omega arith))
])

pub cleared : (a r : List ℕ) (row : ℕ) → row < rows → calendar_size ≤ length r → EmptiedTo a r row (low_of a row) (max (low_of a row) (high_of a row))
    → Cleared a (put_word r row 0) row
cleared a r row hr size E = record {
  rest = record {
    size = put_length r row 0 ∙ E.rest.size;
    past = λ k l. put_byte r row 0 k (λ e. omega arith) (λ e. omega arith) ∙ E.rest.past k l;
  };
  cells = λ x j i l m. rw (put_other r row 0 (cell_word x j) (λ e. omega arith)) (E.cells x j i l m ∙ rw (later (low_of a row) (high_of a row) j));
  low_here = ap (λ (b : ℕ). no_pair - b) (put_low r row 0 (omega arith));
  high_here = put_high r row 0 (omega arith);
  low = λ x l d. ap (λ (b : ℕ). no_pair - b) (put_byte r row 0 (2 * x) (λ e. d (omega arith)) (λ e. omega arith) ∙ E.front (2 * x) (omega arith));
  high = λ x l d. put_byte r row 0 (2 * x + 1) (λ e. omega arith) (λ e. d (omega arith)) ∙ E.front (2 * x + 1) (omega arith);
}

pub started : (a r : List ℕ) → Zeroed a r 0 calendar_size → SamePast a r × Empty r
started a r Z = (
  record { size = Z.size; past = λ k l. Z.above k (omega arith) },
  record {
    low = λ x l. ap (λ (b : ℕ). no_pair - b) (Z.zero (2 * x) (omega arith) (omega arith));
    high = λ x l. Z.zero (2 * x + 1) (omega arith) (omega arith);
    cells = λ x j i l n. rw (zeroed_word a r 0 calendar_size (cell_word x j) (omega arith) (omega arith) Z) (bit_zero i);
  },
)
