-- Sheets computed from the definitions, page and bytes behind it; the answers read back from them; and pages that are refused.
use mathlib.Core.Path.{◌≡◌, refl}
use mathlib.Core.List.{[], ◌∷◌, ◌++◌}
use Prim.Native.Nat.{ℕ}
use Rattle.decimal.specs.Aligned as aligned
use Rattle.decimal.specs.Decimal
use Rattle.plan.specs.{Buffer.into_buffer, Check.check_in, Check.refused, Check.result}
use Rattle.answers.specs.Answers.{count_in}
use Rattle.fitting.specs.Answered.{answered_after, answered_in}
use Rattle.page.specs.Page as page
use Rattle.page.specs.Recovered as back
use Rattle.sheet.specs.Sheet.{sheet_after, sheet_in}
use Rattle.cases.specs.Hex.{hex, lent}
use Rattle.cases.specs.{FormTwo.one_read_two, Starred.one_read}
use Rattle.cases.specs.Sheets as S
use Rattle.cases.proofs.Opened.{opened}

-- the definitions that a sheet computes with besides
paging : ℕ
unfolding opened aligned.right count_in page.in_cells page.heading page.rule page.aligned_in page.is_marked page.row_of page.read_line page.read_lines page.page_of
paging = 0

printing : ℕ
unfolding paging check_in answered_after answered_in into_buffer sheet_after sheet_in S.headed S.headed_two S.first_sheet S.first_sheet_two S.at_once S.most_counted S.marked_sheet one_read_two
printing = 0

pub first : sheet_in 1 one_read (hex 5 0x004001c002) (lent 326) ≡ record { outcome = result 324; out = S.first_sheet ++ (255 ∷ 255 ∷ []) }
unfolding printing
first = refl

pub first_two : sheet_in 2 one_read_two (hex 6 0x00400001c002) (lent 324) ≡ record { outcome = result 324; out = S.first_sheet_two }
unfolding printing
first_two = refl

-- a mark beside the initial value, and any count
pub marked : sheet_in 1 S.at_once S.most_counted (lent 324) ≡ record { outcome = result 324; out = S.marked_sheet }
unfolding printing
marked = refl

-- a page that is one byte too short; answers of other lengths; an answer to another read
pub page_short : sheet_in 1 one_read (hex 5 0x004001c002) (lent 323) ≡ record { outcome = refused 15; out = lent 323 }
unfolding printing
page_short = refl

pub no_answer : sheet_in 1 one_read [] (lent 9) ≡ record { outcome = refused 12; out = lent 9 }
unfolding printing
no_answer = refl

pub other_read : sheet_in 1 one_read (hex 5 0x024001c002) (lent 9) ≡ record { outcome = refused 13; out = lent 9 }
unfolding printing
other_read = refl

-- the answers, from the pages alone
pub first_back : back.answers_on S.first_sheet_two ≡ hex 6 0x00400001c002
unfolding printing Decimal.read_from back.line_in back.cell_numbers back.answer_on back.answers_from back.form_on back.answers_on
first_back = refl
