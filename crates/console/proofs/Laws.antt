-- The text that is written out is the whole one.
-- It stands on how long a text is.
use mathlib.Core.Path.{◌≡◌, ◌∙◌, ap}
use mathlib.Core.List.{List}
use Prim.Native.Nat.{ℕ, ◌≤◌}
use lib.ListN.{length, take}
use Rattle.lines.specs.Text.{program_width, text_of, most_text, Written, written_over}
use Rattle.text.proofs.Bounds.{text_whole}

-- the text of a plan stands whole at the start of a buffer that holds every text
pub whole_text : (s l : List ℕ) {o : List ℕ} {r : ℕ} → record { size = r; bytes = o } ≡ written_over (text_of program_width s) l → most_text ≤ length l
    → take r o ≡ text_of program_width s
unfolding written_over
whole_text s l e h = ap (λ (t : Written). take t.size t.bytes) e ∙ text_whole s l h
