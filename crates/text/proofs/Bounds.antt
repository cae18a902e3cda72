-- No text is longer than MOST_BYTES, so a buffer of that size has every text whole.
-- It stands on point 3, by which an answer fits its fields, and on the most reads of an accepted plan.
use mathlib.Core.Path.{◌≡◌, refl}
use mathlib.Core.Logic.{inl, inr}
use mathlib.Core.List.{List, [], ◌∷◌}
use Prim.Native.Nat.{ℕ, ◌*◌, ◌^◌, ◌≤◌, ◌<◌}
use native.Mathlib.Nat.{lt_of_lt_of_le}
use native.Mathlib.Omega.{arith}
use lib.Dec.{lit≤}
use lib.ListN.{length, take, length-append}
use Rattle.decimal.proofs.Laws.{decimal_length}
use Rattle.register.specs as register-specs
use Rattle.register.specs.Plan.{Plan, Read, read_end, value_of, number_of}
use Rattle.register.proofs.Stamped.{value_below}
use Rattle.plan.specs.Packed.{plan_of}
use Rattle.plan.specs.Check.{Outcome, refused, result, check_of}
use Rattle.plan.proofs.Accept.{playable, reads_counted, in_range}
use Rattle.plan.proofs as plan-laws
use Rattle.lines.specs.Text.{program_width, line_with, line_of, lines_for, text_after, text_of, most_line, most_text, written_over}
use Rattle.lines.proofs.Lines.{answer_fits_lem}
use Rattle.text.proofs as text-laws

module _ (s : List ℕ) (m : ℕ) (e : check_of program_width s ≡ result m) where
  abbrev P : Plan
  P = plan_of program_width s

  line_length : (r : Read) → register-specs.Lists.In r P.reads → length (line_of program_width P r) ≤ most_line
  unfolding line_of line_with
  line_length r i =
      let A = playable program_width s m e in
      let F = answer_fits_lem s m e r i in
      let R = plan-laws.AcceptReads.read_stands program_width s A r i in
      let a = register-specs.Reading.answer_of P r in
      let value : value_of program_width a.pair < 10 ^ 5 = lt_of_lt_of_le (value_below program_width a.pair) (lit≤ tt) in
      simp length-append (omega (
        arith,
        decimal_length 2 r.begun (omega (arith, F.begun_fits)),
        decimal_length 0 r.reader (omega (arith, F.reader_fits)),
        decimal_length 2 (read_end P r) (omega (arith, R.ends, (in_range program_width s A).ticks_hi)),
        decimal_length 4 (value_of program_width a.pair) value,
        decimal_length 2 (number_of program_width a.pair) (omega (arith, F.number_fits)),
        decimal_length 1 a.count (omega (arith, F.count_fits)),
      ))

  lines_length : (rs : List Read) → ((r : Read) → register-specs.Lists.In r rs → register-specs.Lists.In r P.reads) → length (lines_for program_width P rs) ≤ most_line * length rs
  unfolding lines_for
  lines_length [] h = omega arith
  lines_length (r ∷ rs) h = rw length-append (omega (arith, line_length r (h r (inl refl)), lines_length rs (λ q i. h q (inr i))))

  reads-length : length (text_after program_width s (result m)) ≤ most_text
  unfolding text_after line_with
  reads-length =
      let few = plan-laws.Longest.most_reads_lem program_width s m e in
      simp length-append (omega (arith, decimal_length 2 m (omega arith), lines_length P.reads (λ r i. i), reads_counted program_width s m e))

refused_length : (s : List ℕ) (n : ℕ) → n ≤ 8 → length (text_after program_width s (refused n)) ≤ most_text
unfolding text_after line_with
refused_length s n h = simp length-append (omega (arith, decimal_length 0 n (omega arith)))

pub text_length : (s : List ℕ) → length (text_of program_width s) ≤ most_text
unfolding text_of
text_length s = go (check_of program_width s) refl
  where
    go : (o : Outcome ℕ) → check_of program_width s ≡ o → length (text_after program_width s o) ≤ most_text
    go (refused n) e = refused_length s n (text-laws.Refusals.refusal_low program_width s n e)
    go (result m) e = reads-length s m e

-- so a buffer of MOST_BYTES has every text whole
pub text_whole : (s buffer : List ℕ) → most_text ≤ length buffer → take (length (text_of program_width s)) (written_over (text_of program_width s) buffer).bytes ≡ text_of program_width s
text_whole s buffer h = text-laws.Over.whole (text_of program_width s) buffer (omega (arith, text_length s))
