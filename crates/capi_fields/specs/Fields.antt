-- The fields of an answer and of a plan's header by number, for a caller that has the bytes alone: all but the zero bit, in packed order.
use Rattle.std.specs.Prelude.{◌&&◌, cond, List, ℕ, ◌/◌, leb, ltb, length, get_or, take}
use Rattle.bits.specs.Fill.{bytes_for}
use Rattle.bits.specs.Layout.{numbers_at}
use Rattle.plan.specs.Form.{is_form, width_of}
use Rattle.plan.specs.Widths.{header_widths}
use Rattle.plan.specs.Header.{header_bits}
use Rattle.answers.specs.Answers.{answer_size, answer_numbers}

-- of answer i, in a form: 0 begin, 1 reader, 2 value, 3 number, 4 count
unfoldable pub answer_fields : ℕ → List ℕ → ℕ → List ℕ
answer_fields form a i = take 5 (answer_numbers (width_of form) a i)

-- 0 where there is no such form, where the bytes have no whole answer i, and where an answer has no such field
unfoldable pub answer_field : ℕ → List ℕ → ℕ → ℕ → ℕ
answer_field form a i field = cond (is_form form && ltb i (length a / answer_size (width_of form))) (get_or (answer_fields form a i) field 0) 0

-- of a header: 0 n, 1 f, 2 δ, 3 Δ, 4 readers, 5 ticks, 6 initial value, 7 operations, 8 forgeries
unfoldable pub header_fields : ℕ → List ℕ → List ℕ
header_fields form s = take 9 (numbers_at (header_widths (width_of form)) s 0)

-- 0 where there is no such form, where the bytes have no whole header, and where a header has no such field; whether the plan is accepted plays no part
unfoldable pub header_field : ℕ → List ℕ → ℕ → ℕ
header_field form s field = cond (is_form form && leb (bytes_for (header_bits (width_of form))) (length s)) (get_or (header_fields form s) field 0) 0
