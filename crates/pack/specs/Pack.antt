-- Pack (document 02, 'One'): its result and the lent buffer, for all lists of numbers.
use Rattle.std.specs.Prelude.{Bool, ◌&&◌, List, ℕ, ◌*◌, eqb, leb, length}
use Rattle.bits.specs.Layout.{fits}
use Rattle.plan.specs.Form.{is_form, width_of}
use Rattle.plan.specs.Widths.{header_widths, placement_widths, operation_widths, forgery_widths, delay_widths}
use Rattle.plan.specs.Header.{Header, moves, delay_count}
use Rattle.plan.specs.Check as check
use Rattle.plan.specs.Check.{Outcome, result, unless}
use Rattle.plan.specs.Buffer.{Buffered, into_buffer}
use Rattle.lists.specs.Lists as lists
use Rattle.lists.specs.Lists.{Lists, listed, packed_plan}

-- '4 is a list whose length isn't what the header implies'
unfoldable pub lengths_implied : ℕ → Header → Lists → Bool
lengths_implied w h l =
    eqb (length l.placements) (length placement_widths * moves h)
    && (eqb (length l.operations) (length (operation_widths w) * h.operations)
    && (eqb (length l.forgeries) (length (forgery_widths w) * h.forgeries)
    && eqb (length l.delays) (length delay_widths * delay_count h)))

-- The parts' checks are those of the plan s that the lists are packed to, and 'a number too wide for its field takes the number of its
-- part'. '14: the buffer is shorter than the plan; last check'
unfoldable pub part_tests : ℕ → Header → List ℕ → Lists → ℕ → Outcome ℕ
part_tests w h s l room =
    unless (fits (lists.placements_widths h) l.placements && check.placements_stand w s h) 5
    (unless (fits (lists.operations_widths w h) l.operations && check.operations_stand w s h) 6
    (unless (fits (lists.forgeries_widths w h) l.forgeries && check.forgeries_stand w s h) 7
    (unless (fits (lists.delays_widths h) l.delays && check.delays_stand w s h) 8
    (unless (leb (length s) room) 14
    (result (length s))))))

module _ (w : ℕ) (l : Lists) where
  -- 'The lists must meet the same checks as a plan, under the same numbers. Here 1 never occurs, a header list of other than ten numbers ..
  -- is 2': a list that does not fit the header's ten fields
  unfoldable pub pack_tests : ℕ → Outcome ℕ
  pack_tests room =
      let h : Header = listed l in
      unless (fits (header_widths w) l.header && check.header_in_range h) 2
      (unless (check.enough_servers h) 3
      (unless (lengths_implied w h l) 4
      (part_tests w h (packed_plan w l) l room)))

  unfoldable pub pack_of : List ℕ → Buffered
  pack_of out = into_buffer (packed_plan w l) out (pack_tests (length out))

-- Ten: '1 is a form other than one or two (when packing too)'
unfoldable pub pack_in : ℕ → Lists → List ℕ → Buffered
pack_in form l out = into_buffer (packed_plan (width_of form) l) out (unless (is_form form) 1 (pack_tests (width_of form) l (length out)))
