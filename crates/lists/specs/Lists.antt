-- The lists of a plan, and the plan packed from them (document 02, 'One').
use Rattle.std.specs.Prelude.{◌≡◌, not, List, ◌++◌, ℕ, ◌+◌, ◌*◌, eqb, length, get_or}
use Rattle.bits.specs.Layout.{records, numbers_at, packed_bits, in_bytes}
use Rattle.register.specs.Lists.{count}
use Rattle.plan.specs.Widths.{header_widths, placement_widths, operation_widths, forgery_widths, delay_widths}
use Rattle.plan.specs.Header.{Header, header_from, header_of, moves, delay_count, placement_at, operation_at, forgery_at, delay_at}

-- 'header, placements, operations, forgeries and delays come as separate lists of numbers, one number for each field in packed order'
pub record Lists : Type 0 where
  pub header : List ℕ
  pub placements : List ℕ
  pub operations : List ℕ
  pub forgeries : List ℕ
  pub delays : List ℕ

-- the widths of the fields of a part, for as many records as the header implies
abbrev pub placements_widths : Header → List ℕ
placements_widths h = records (moves h) placement_widths

abbrev pub operations_widths : ℕ → Header → List ℕ
operations_widths w h = records h.operations (operation_widths w)

abbrev pub forgeries_widths : ℕ → Header → List ℕ
forgeries_widths w h = records h.forgeries (forgery_widths w)

abbrev pub delays_widths : Header → List ℕ
delays_widths h = records (delay_count h) delay_widths

-- a plan 'read field by field'
unfoldable pub lists_of : ℕ → List ℕ → Lists
lists_of w s =
    let h : Header = header_of w s in
    record {
      header = numbers_at (header_widths w) s 0;
      placements = numbers_at (placements_widths h) s (placement_at w 0);
      operations = numbers_at (operations_widths w h) s (operation_at w h 0);
      forgeries = numbers_at (forgeries_widths w h) s (forgery_at w h 0);
      delays = numbers_at (delays_widths h) s (delay_at w h 0 0 0);
    }

-- the header that its list says
abbrev pub listed : Lists → Header
listed l = header_from l.header

module _ (w : ℕ) (l : Lists) where
  -- all bits before the final ones; of a number too wide the lowest bits
  unfoldable pub plan_bits : List ℕ
  plan_bits =
      packed_bits (header_widths w) l.header
      ++ (packed_bits (placements_widths (listed l)) l.placements
      ++ (packed_bits (operations_widths w (listed l)) l.operations
      ++ (packed_bits (forgeries_widths w (listed l)) l.forgeries
      ++ packed_bits (delays_widths (listed l)) l.delays)))

  -- 'the packed plan'
  unfoldable pub packed_plan : List ℕ
  packed_plan = in_bytes plan_bits

-- the operations that are reads: their second number, the party, is not 0
abbrev pub reads_listed : ℕ → Lists → ℕ
reads_listed w l = count (λ i. not (eqb (get_or l.operations (length (operation_widths w) * i + 1) 0) 0)) (listed l).operations

-- each part has a number for each field that the header implies
pub record Full (w : ℕ) (h : Header) (l : Lists) : Type 0 where
  pub placements : length l.placements ≡ length placement_widths * moves h
  pub operations : length l.operations ≡ length (operation_widths w) * h.operations
  pub forgeries : length l.forgeries ≡ length (forgery_widths w) * h.forgeries
  pub delays : length l.delays ≡ length delay_widths * delay_count h
