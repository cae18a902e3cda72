-- The lines read from the answers' bytes are those of the reads, where the answers are those of an accepted plan.
-- It stands on point 3, by which an answer fits its fields, and on the answers' bytes.
use mathlib.Core.Path.{◌≡◌, refl, sym, ap, ◌∙◌}
use mathlib.Core.Bool.{Bool, true, false, cond}
use mathlib.Core.List.{List, [], ◌∷◌, ◌++◌, append_assoc, append-nil}
use Prim.Native.Nat.{ℕ, zero, suc, ◌*◌, ◌/◌, ◌≤◌, ◌<◌}
use native.Mathlib.{Nat.le_refl, Omega.arith}
use lib.Dec.{ltb}
use lib.ListN.{length, get_or, take}
use lib.Seq.{take-suc, take_all}
use borrow.Author.Tests.{lt-ltb}
use Rattle.bits.proofs.Laws.{field_lt}
use Rattle.register.specs as register-specs
use Rattle.plan.specs as plan-specs
use Rattle.plan.proofs as plan-laws
use Rattle.answers.specs.Answers.{answer_size, answer_at, answers_for, answers_of}
use Rattle.answers.proofs.Lengths.{answers_length}
use Rattle.results.specs.Judge.{read_of}
use Rattle.results.proofs as results-laws
use Rattle.capi_fields.specs.Fields.{answer_fields, answer_field}
use Rattle.lines.specs.declared.Answer.{Answer as Fields}
use Rattle.lines.specs.{Text.program_width, Text.line_of, Text.lines_for, Lines.answer_in, Lines.line_for, Lines.lines_in}

-- what the fields of a read's answer have to be
abbrev fields_of : register-specs.Plan.Read → register-specs.Reading.Answer → Fields
fields_of r a = record { begin = r.begun; reader = r.reader; value = register-specs.Plan.value_of program_width a.pair; number = register-specs.Plan.number_of program_width a.pair; count = a.count }

abbrev fields_in : List ℕ → Fields
fields_in x = record { begin = get_or x 0 0; reader = get_or x 1 0; value = get_or x 2 0; number = get_or x 3 0; count = get_or x 4 0 }

-- the begin of an answer, whatever the bytes
pub begin_low : (a : List ℕ) (i : ℕ) → (answer_in a i).begin < 128
unfolding answer_in answer_field answer_fields
begin_low a i = go (ltb i (length a / answer_size program_width)) (field_lt a (answer_at program_width a i) 7)
  where
    go : (t : Bool) {x : ℕ} → x < 128 → cond t x 0 < 128
    go true h = h
    go false h = omega arith

lines_append : (P : register-specs.Plan.Plan) (a b : List register-specs.Plan.Read) → lines_for program_width P (a ++ b) ≡ lines_for program_width P a ++ lines_for program_width P b
unfolding lines_for
lines_append P [] b = refl
lines_append P (r ∷ a) b = rw (lines_append P a b) (sym (append_assoc (line_of program_width P r) _ _))

module _ (s : List ℕ) (m : ℕ) (e : plan-specs.Check.check_of program_width s ≡ plan-specs.Check.result m) where
  abbrev P : register-specs.Plan.Plan
  P = plan-specs.Packed.plan_of program_width s

  abbrev none : register-specs.Plan.Read
  none = record { begun = 0; reader = 0 }

  inside : (i : ℕ) → i < m → i < length P.reads
  inside i l = rw (plan-laws.Accept.reads_counted program_width s m e) at l

  -- every answer fits its fields
  pub answer_fits_lem : (r : register-specs.Plan.Read) → register-specs.Lists.In r P.reads → results-laws.AnswerBytes.FieldsFit program_width r (register-specs.Reading.answer_of P r)
  answer_fits_lem r i = results-laws.Judged.fits program_width s (plan-laws.Accept.accepted program_width s m e) r i ((results-laws.PointThree.point_three program_width s m e).served r i)

  fields-are : (i : ℕ) → i < m → answer_in (answers_of program_width s) i ≡ fields_of (read_of P i) (register-specs.Reading.answer_of P (read_of P i))
  unfolding answer_in answer_field answer_fields answers_of
  fields-are i l =
      let n = inside i l in
      let F = answer_fits_lem (read_of P i) (plan-laws.Tests.get_d_in P.reads i none n) in
      let whole : i < length (answers_for program_width P P.reads) / answer_size program_width = omega (arith, answers_length program_width P P.reads) in
      rw (lt-ltb _ _ whole) (ap fields_in (results-laws.AnswerBytes.numbers_of program_width P P.reads none i n F))

  line_is : (i : ℕ) → i < m → line_for (2 * P.delta) (answer_in (answers_of program_width s) i) ≡ line_of program_width P (read_of P i)
  unfolding line_for line_of
  line_is i l = rw (fields-are i l)

  first-lines : (i : ℕ) → i ≤ m → lines_in (answers_of program_width s) (2 * P.delta) i ≡ lines_for program_width P (take i P.reads)
  unfolding lines_in lines_for
  first-lines zero l = refl
  first-lines (suc i) l =
      rw (first-lines i (omega arith), line_is i l, take-suc P.reads i none (inside i l), lines_append P (take i P.reads) (read_of P i ∷ []), append-nil)

  lines_are : lines_in (answers_of program_width s) (2 * P.delta) m ≡ lines_for program_width P P.reads
  lines_are = first-lines m (le_refl m) ∙ rw (take_all m P.reads (omega (arith, plan-laws.Accept.reads_counted program_width s m e)))

  -- how long a read lasts, from the header
  module _ (x : plan-specs.declared.header.Shape.Shape) (same : plan-specs.Shape.shape x ≡ plan-specs.Header.header_of program_width s) where
    span_is : 2 * x.delta ≡ 2 * P.delta
    unfolding plan-specs.Packed.plan_of
    span_is = ap (λ (h : plan-specs.Header.Header). 2 * h.delta) same

    pub span_few : 2 * x.delta ≤ 30
    span_few = omega (arith, ap (λ (h : plan-specs.Header.Header). h.delta) same, (plan-laws.Accept.in_range program_width s (plan-laws.Accept.accepted program_width s m e).playable).delta_hi)

    pub all_lines : (a : List ℕ) (i : ℕ) → a ≡ answers_of program_width s → i ≡ m → lines_in a (2 * x.delta) i ≡ lines_for program_width P P.reads
    all_lines a i is n = rw (is, span_is, n) lines_are
