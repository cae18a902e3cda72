-- The answers' bytes read back what was packed, for every width; and how many bytes they are.
-- It stands on the laws of packing, of bytes in a row and of stamped values.
use mathlib.Core.Path.{◌≡◌, refl, ap, ◌∙◌}
use mathlib.Core.Bool.{true}
use mathlib.Core.List.{List, [], ◌∷◌, append-nil}
use Prim.Native.Nat.{ℕ, ◌+◌, ◌*◌, ◌<◌}
use native.Mathlib.Omega.{arith}
use lib.Dec.{lit<}
use lib.ListN.{length, get_or}
use borrow.Author.Tests.{lt-ltb}
use Rattle.bits.specs.Layout.{numbers_at, fits}
use Rattle.bits.proofs.Packing.{numbers_packed}
use Rattle.register.specs.Plan.{Plan, Read, stamped, number_of}
use Rattle.register.specs.Reading.{Answer, answer_of}
use Rattle.plan.specs.Packed.{plan_of}
use Rattle.register.proofs.Stamped.{stamped_back, value_below}
use Rattle.answers.specs.Answers.{answer_widths, answer_size, answer_with, answer_bytes, answers_for, answers_of, answer_numbers, begin_in, reader_in, pair_in, count_in, zero_in}
use Rattle.answers.proofs.Lengths.{answer_length, answers_length}
use Rattle.results.proofs.Bytes.{joined, numbers_joined}

-- an answer whose parts fit their fields
pub record FieldsFit (w : ℕ) (r : Read) (a : Answer) : Type 0 where
  pub begun_fits : r.begun < 128
  pub reader_fits : r.reader < 8
  pub number_fits : number_of w a.pair < 256
  pub count_fits : a.count < 32

module _ (w : ℕ) (r : Read) (a : Answer) where
  all_fit : FieldsFit w r a → fits (answer_widths w) (answer_with w r a) ≡ true
  unfolding fits
  all_fit F =
      rw (lt-ltb _ _ F.begun_fits, lt-ltb _ _ F.reader_fits, lt-ltb _ _ (value_below w a.pair), lt-ltb _ _ F.number_fits, lt-ltb _ _ F.count_fits)

  pub reads_back : FieldsFit w r a → numbers_at (answer_widths w) (answer_bytes w r a) 0 ≡ answer_with w r a
  unfolding answer_bytes
  reads_back F = rw append-nil at (numbers_packed (answer_widths w) (answer_with w r a) [] [] (all_fit F) (λ i. lit< tt) (λ i. lit< tt))

-- All answers, one after the other.
module _ (w : ℕ) (P : Plan) where
  bytes_of : Read → List ℕ
  bytes_of r = answer_bytes w r (answer_of P r)

  answers-joined : (rs : List Read) → answers_for w P rs ≡ joined bytes_of rs
  unfolding answers_for joined bytes_of
  answers-joined [] = refl
  answers-joined (r ∷ rs) = rw (answers-joined rs)

  bytes-even : (r : Read) → length (bytes_of r) ≡ answer_size w
  unfolding bytes_of
  bytes-even r = answer_length w r (answer_of P r)

  -- the fields of answer i are those of its read
  module _ (rs : List Read) (d : Read) (i : ℕ) (l : i < length rs) (F : FieldsFit w (get_or rs i d) (answer_of P (get_or rs i d))) where
    pub numbers_of : answer_numbers w (answers_for w P rs) i ≡ answer_with w (get_or rs i d) (answer_of P (get_or rs i d))
    unfolding bytes_of
    numbers_of =
        let e : 8 * answer_size w * i + 0 ≡ 8 * answer_size w * i = omega arith in
        ap (λ (b : List ℕ). answer_numbers w b i) (answers-joined rs)
        ∙ (rw e at (numbers_joined bytes_of (answer_size w) bytes-even (answer_widths w) rs i d 0 l (omega arith)))
        ∙ reads_back w (get_or rs i d) (answer_of P (get_or rs i d)) F

    pub begin_of : begin_in w (answers_for w P rs) i ≡ (get_or rs i d).begun
    unfolding begin_in
    begin_of = ap (λ (x : List ℕ). get_or x 0 0) numbers_of

    pub reader_of : reader_in w (answers_for w P rs) i ≡ (get_or rs i d).reader
    unfolding reader_in
    reader_of = ap (λ (x : List ℕ). get_or x 1 0) numbers_of

    pub pair_of : pair_in w (answers_for w P rs) i ≡ (answer_of P (get_or rs i d)).pair
    unfolding pair_in
    pair_of = ap (λ (x : List ℕ). stamped w (get_or x 2 0) (get_or x 3 0)) numbers_of ∙ stamped_back w (answer_of P (get_or rs i d)).pair

    pub count_of : count_in w (answers_for w P rs) i ≡ (answer_of P (get_or rs i d)).count
    unfolding count_in
    count_of = ap (λ (x : List ℕ). get_or x 4 0) numbers_of

    pub zero_of : zero_in w (answers_for w P rs) i ≡ 0
    unfolding zero_in
    zero_of = ap (λ (x : List ℕ). get_or x 5 0) numbers_of

-- 5 bytes for each read in form one
pub answers_of_length : (w : ℕ) (s : List ℕ) → length (answers_of w s) ≡ answer_size w * length (plan_of w s).reads
unfolding answers_of
answers_of_length w s = answers_length w (plan_of w s) (plan_of w s).reads
