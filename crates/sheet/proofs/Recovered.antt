-- The answers are read back from what the sheet writes, byte for byte, whatever their values, numbers and counts.
-- It stands on the page's law.
use mathlib.Core.Path.{◌≡◌, refl, sym, ◌∙◌}
use mathlib.Core.List.{List}
use Prim.Native.Nat.{ℕ}
use native.Mathlib.Omega.{arith}
use lib.Dec.{leb}
use lib.ListN.{length, take, drop}
use lib.Seq.{take_at}
use Rattle.bits.specs.Field.{Bytes}
use Rattle.plan.specs.{Form.width_of, Packed.plan_of, Check.Outcome, Check.refused, Check.result, Buffer.into_buffer}
use Rattle.plan.proofs.{Accept.reads_counted, Buffer.into_outcome, Tests.passed}
use Rattle.fitting.specs.Answered.{answered_in}
use Rattle.fitting.proofs.Passed.{is_to_lem, form_answered}
use Rattle.page.specs.{Page.page_of, Recovered.answers_on}
use Rattle.page.proofs.Recovered.{recovered}
use Rattle.sheet.specs.Sheet.{sheet_after, sheet_in}

-- where bytes are written, the answers are to the plan's reads, and all of the page is written
written : (text : List ℕ) (room m : ℕ) (o : Outcome ℕ) → sheet_after text room o ≡ result m → (k : ℕ) × (o ≡ result k) × (length text ≡ m)
unfolding sheet_after
written text room m (refused number) e = let z : ◌≡◌ {A = ℕ} 0 1 = cc in absurd (omega arith)
written text room m (result k) e =
    let p = passed (leb (length text) room) 15 (result (length text)) m e in
    let same : length text ≡ m = cc in
    (k, refl, same)

pub sheet_recovered : (form : ℕ) (s a page : List ℕ) (m : ℕ) → Bytes a → (sheet_in form s a page).outcome ≡ result m
    → answers_on (take m (sheet_in form s a page).out) ≡ a
unfolding sheet_in into_buffer
sheet_recovered form s a page m bytes e =
    let w : ℕ = width_of form in
    let text : List ℕ = page_of w s a in
    let after : sheet_after text (length page) (answered_in form s a) ≡ result m = sym (into_outcome text page (sheet_after text (length page) (answered_in form s a))) ∙ e in
    let (k, passed, long) = written text (length page) m (answered_in form s a) after in
    let (known, A) = form_answered form s a k passed in
    let reads : k ≡ length (plan_of w s).reads = reads_counted w s k A.checked in
    rw (after, take_at text (drop m page) m long)
    (recovered form known s a bytes (rw reads at A.size) (λ i l. is_to_lem w s a k A i (rw (← reads) at l)))
