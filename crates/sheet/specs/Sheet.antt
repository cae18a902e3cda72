-- The sheet (document 02, 'Two'): its result and the lent page, for all inputs.
use Rattle.std.specs.Prelude.{List, ℕ, leb, length}
use Rattle.plan.specs.Form.{width_of}
use Rattle.plan.specs.Check.{Outcome, refused, result, unless}
use Rattle.plan.specs.Buffer.{Buffered, into_buffer}
use Rattle.fitting.specs.Answered.{answered_in}
use Rattle.page.specs.Page.{page_of}

-- '15: the lent page is too short; after 13'; else the number of bytes written ('One')
unfoldable pub sheet_after : List ℕ → ℕ → Outcome ℕ → Outcome ℕ
sheet_after written room (refused number) = refused number
sheet_after written room (result m) = unless (leb (length written) room) 15 (result (length written))

-- of a plan s in a form and answers a: Check's refusals, 12 and 13 come first
unfoldable pub sheet_in : ℕ → List ℕ → List ℕ → List ℕ → Buffered
sheet_in form s a page =
    let written : List ℕ = page_of (width_of form) s a in
    into_buffer written page (sheet_after written (length page) (answered_in form s a))
