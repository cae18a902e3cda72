-- The page that is written, and what the sheet returns for it: the tests of its length.
-- It stands on the page's laws.
use mathlib.Core.Path.{◌≡◌, ap, ◌∙◌}
use mathlib.Core.List.{List, [], ◌∷◌, ◌++◌}
use Prim.Native.Nat.{ℕ, ◌+◌, ◌*◌, ◌≤◌, ◌<◌}
use native.Mathlib.Nat.{zero-add}
use native.Mathlib.Omega.{arith}
use lib.ListN.{length, length-append}
use borrow.Author.Tests.{le-leb, lt-leb}
use Rattle.decimal.specs.{Stored.Stored, Aligned.line_feed}
use Rattle.decimal.proofs.Stores.{stored_first}
use Rattle.plan.specs.{Form.most_width, Check.refused, Check.result, Buffer.into_buffer}
use Rattle.plan.proofs.Accept.{reads_counted}
use Rattle.fitting.specs.Answered.{Answered}
use Rattle.page.specs.Page.{line_columns, line_size, ended, read_lines, empty_line, heading, rule, page_of}
use Rattle.page.proofs.Lines.{page_length}
use Rattle.sheet.specs.Sheet.{sheet_after}

-- behind a line
pub line_next : {l o : List ℕ} {at y : ℕ} (line : List ℕ) → length line ≡ line_columns → Stored l at (ended line) o y → y ≡ at + line_size
line_next line e S = omega (arith, e, S.next_is, length-append line (line_feed ∷ []))

module _ (w : ℕ) (s a : List ℕ) (m : ℕ) (narrow : w ≤ most_width) (A : Answered w s a m) where
  -- the page by the number of the answers
  pub page_is : (ended heading ++ ended (rule w)) ++ (read_lines w s a m ++ empty_line) ≡ page_of w s a
  unfolding page_of
  page_is = rw (← reads_counted w s m A.checked)

  pub page_size : length (page_of w s a) ≡ line_size * (m + 3)
  page_size = page_length w s a narrow ∙ ap (λ (k : ℕ). line_size * (k + 3)) (rw (← reads_counted w s m A.checked))

  -- a page that is too short is refused and stays, another one has the sheet at its start
  module _ (page : List ℕ) where
    pub too_short : length page < line_size * (m + 3)
        → record { outcome = refused 15; out = page } ≡ into_buffer (page_of w s a) page (sheet_after (page_of w s a) (length page) (result m))
    unfolding sheet_after into_buffer
    too_short h = rw (lt-leb (length (page_of w s a)) (length page) (omega (arith, page_size)))

    pub has_room : {o : List ℕ} {y : ℕ} → line_size * (m + 3) ≤ length page → Stored page 0 (page_of w s a) o y
        → record { outcome = result y; out = o } ≡ into_buffer (page_of w s a) page (sheet_after (page_of w s a) (length page) (result m))
    unfolding sheet_after into_buffer
    has_room h S =
        let fits : length (page_of w s a) ≤ length page = omega (arith, page_size) in
        rw (le-leb (length (page_of w s a)) (length page) fits, S.next_is, stored_first fits S, zero-add)
