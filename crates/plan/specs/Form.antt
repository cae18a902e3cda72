-- The forms of a plan (document 02, 'Ten'): they differ in the bits of a value alone.
use Rattle.std.specs.Prelude.{Bool, ◌||◌, cond, ℕ, eqb}

-- 'The caller names the form', by a number
abbrev pub form_one : ℕ
form_one = 1

abbrev pub form_two : ℕ
form_two = 2

-- one or two
abbrev pub is_form : ℕ → Bool
is_form form = eqb form form_one || eqb form form_two

-- 'Plan form two has 24 bits for every cue', form one 16; a number that names no form is refused before this is asked
abbrev pub width_of : ℕ → ℕ
width_of form = cond (eqb form form_two) 24 16

-- the most bits of a value that the code can take
abbrev pub most_width : ℕ
most_width = width_of form_two
