-- `write` meets its contract: the text follows from what Play left, and is stored from the buffer's start on.
use mathlib.Core.Path.{◌≡◌, sym, ap, ◌∙◌}
use mathlib.Core.List.{List}
use Prim.Native.Nat.{ℕ, ◌*◌, ◌≤◌}
use native.Mathlib.Nat.{le_of_eq, mul-le-mul_left}
use native.Mathlib.Omega.{arith}
use lib.Dec.{lit≤}
use lib.ListN.{length-replicate}
use lib.Seq.{length-take-le}
use Rattle.decimal.specs.Stored.{Stored}
use Rattle.decimal.proofs.Stores.{stored_as, stored_then}
use Rattle.plan.specs.{Limits.most_reads, Numbered.numbered}
use Rattle.answers.specs.Answers.{answer_size}
use Rattle.lines.specs.Text.{program_width, text_of, most_text, written_over}
use Rattle.text.proofs.Over.{stored_over}
use Rattle.text.proofs.Bounds.{text_length}
use Rattle.text.proofs.Ends.{Decided, decided, refused_text}
use borrow.Author.Rules.{rules}
use Rattle.text.proofs.write.Goals.{In-Ok, After-size}
use Rattle.text.proofs.write.Goals as goal

-- a text that is stored from the start on is written over the buffer, and no longer than the longest
ends : {l o : List ℕ} {r : ℕ} (s : List ℕ) → Stored l 0 (text_of program_width s) o r → (record { size = r; bytes = o } ≡ written_over (text_of program_width s) l) × (r ≤ most_text)
ends s S = (stored_over S, omega (arith, S.next_is, text_length s))

-- the array of answers has room for the most reads, and the workspace has its bytes
by-play : (c : In-Ok) → Decided c.args.plan.now c.in-Ok.reads c.play.new.answers
by-play c = decided _ _ _ (lit≤ tt) (le_of_eq (sym (length-replicate {A = ℕ} 60000 0))) _ c.play.ensures.work_after _ (ap numbered c.in-Ok.is)

-- the bytes of an answer in the program's form, and those of all answers
sized : (c : After-size) → c.size.result ≡ answer_size program_width
sized c = c.size.ensures ∙ ap answer_size c.width.ensures.0

few : (c : After-size) → c.size.result * c.in-Ok.reads ≤ answer_size program_width * most_reads
few c = rw (sized c) (mul-le-mul_left (answer_size program_width) (by-play (goal.at.After-size c).In-Ok).few)

pub returns-in-Err : goal.returns-in-Err
returns-in-Err c =
    let text = refused_text _ _ _ (lit≤ tt) (le_of_eq (sym (length-replicate {A = ℕ} 60000 0))) _ c.play.ensures.work_after _ (ap numbered c.in-Err.is) in
    let e = ends _ (stored_as text (rw c.number.ensures.0 at c.put_first.ensures.fact)) in
    record { out_after = e.0; upper_bound = e.1 }

pub overflow_mul-end : goal.overflow_mul-end
overflow_mul-end c = omega (arith, few (goal.at.overflow_mul-end c).After-size)

pub slice_bounds-answers-end : goal.slice_bounds-answers-end
slice_bounds-answers-end c = omega (arith, few (goal.at.slice_bounds-answers-end c).After-size, c.play.auto.answers)

pub slice_bounds-put_lines-end : goal.slice_bounds-put_lines-end
slice_bounds-put_lines-end c = let x = c.play in
    sym (length-take-le (c.size.result * c.in-Ok.reads) x.new.answers (omega (arith, few (goal.at.slice_bounds-put_lines-end c).After-size, x.auto.answers)))

pub put_lines-requires : goal.put_lines-requires
put_lines-requires c = let d = by-play (goal.at.put_lines-requires c).In-Ok in
    (search rules, d.accepted, rw (sized (goal.at.put_lines-requires c).After-size) d.answers)

pub returns-in-Ok : goal.returns-in-Ok
returns-in-Ok c = let e = ends _ (stored_as (by-play (goal.at.returns-in-Ok c).In-Ok).text (stored_then c.put_first-start.ensures.fact c.put_lines.ensures)) in
    record { out_after = e.0; upper_bound = e.1 }
