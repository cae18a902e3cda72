-- The limits of sizes that follow from the formats (document 01, 'The plan, packed'; document 02, 'Ten'). Those of the lent buffers are in the crate
-- answers.
use Rattle.std.specs.Prelude.{cond, ℕ, ◌+◌, ◌*◌, eqb}
use Rattle.plan.specs.Form.{form_one, form_two, most_width}
use Rattle.plan.specs.Header.{operation_bits, forgery_bits, delay_bits, placement_at}

-- 'An accepted plan has at most 34,362 bytes.' 'an accepted plan of form two has at most 35,619 bytes'; no other form has one
abbrev pub most_bytes : ℕ → ℕ
most_bytes form = cond (eqb form form_one) 34362 (cond (eqb form form_two) 35619 0)

-- where the parts of a plan can begin at most, and how many bits they can have together: 128 movements, 255 operations, 1,024 forgeries, 128 ticks of 21
-- parties, in form two
abbrev pub most_operations_at : ℕ
most_operations_at = placement_at most_width 128

abbrev pub most_forgeries_at : ℕ
most_forgeries_at = most_operations_at + operation_bits most_width * 255

abbrev pub most_delays_at : ℕ
most_delays_at = most_forgeries_at + forgery_bits most_width * 1024

abbrev pub most_delays : ℕ
most_delays = 128 * (21 * 21)

abbrev pub most_bits : ℕ
most_bits = most_delays_at + delay_bits * most_delays

-- the most bytes that a header in range implies, in form two and with 255 operations: an input with more bytes is refused whatever they are
abbrev pub implied_bytes : ℕ
implied_bytes = 35717

-- the reads of an accepted plan: 42 of each of four readers
abbrev pub most_reads : ℕ
most_reads = 168
