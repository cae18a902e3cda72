-- The line of a read, from its answer and from what is decoded of the plan.
-- It stands on the answers being to the plan's reads.
use mathlib.Core.Path.{◌≡◌, sym, ◌∙◌}
use mathlib.Core.Bool.{Bool}
use mathlib.Core.List.{List, [], ◌∷◌}
use Prim.Native.Nat.{ℕ, ◌+◌, ◌*◌, ◌<◌}
use Rattle.bits.proofs.Laws.{field_lt}
use Rattle.plan.specs.Packed.{plan_of}
use Rattle.answers.specs.Answers.{answer_at, reader_in, count_in}
use Rattle.answers.specs.Parts.{IsAnswer}
use Rattle.answers.specs.declared.Answer.{Answer}
use Rattle.answers.proofs.Valued.{value_is, number_is}
use Rattle.results.specs.Judge.{read_of}
use Rattle.fitting.specs.Answered.{Answered}
use Rattle.fitting.proofs.Passed.{is_to_lem}
use Rattle.page.specs.Page.{is_marked, row_of, read_line}

module _ {w : ℕ} {a : List ℕ} {i : ℕ} {r : Answer} (X : IsAnswer w a i r) where
  pub reader_low : r.reader < 8
  unfolding reader_in
  reader_low = rw X.reader (field_lt a (answer_at w a i + 7) 3)

  pub count_low : r.count < 32
  unfolding count_in
  count_low = rw X.count (field_lt a (answer_at w a i + 7 + 3 + w + 8) 5)

  module _ {s : List ℕ} {count : ℕ} (A : Answered w s a count) (l : i < count) where
    pub begun_is : (read_of (plan_of w s) i).begun ≡ r.begin
    begun_is = sym (X.begin ∙ (is_to_lem w s a count A i l).begin)

    pub line_is : (delta : ℕ) (marked : Bool) → (plan_of w s).delta ≡ delta → marked ≡ is_marked (plan_of w s) (read_of (plan_of w s) i)
        → row_of w (r.begin ∷ r.reader ∷ (r.begin + 2 * delta) ∷ r.value ∷ r.number ∷ r.count ∷ []) marked ≡ read_line w s a i
    unfolding read_line
    line_is delta marked d e = rw (← begun_is, X.reader, (is_to_lem w s a count A i l).reader, ← d, value_is X, number_is X, X.count, e)
