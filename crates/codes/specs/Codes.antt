-- What the operations return, as one number each: a result below refused_from, or refused_from and the refusal's number. Built on the operations' own
-- definitions.
use Rattle.std.specs.Prelude.{Bool, true, false, List, [], ◌∷◌, ◌++◌, ℕ, ◌+◌, ◌*◌, ◌/◌, ◌%◌, ◌^◌, ◌<◌, length, take, drop, get_or, Option, None, IfSome}
use Rattle.results.specs.declared.look.Pair.{Pair}
use Rattle.plan.specs.Form.{most_width}
use Rattle.plan.specs.Check.{Outcome, refused, result}
use Rattle.results.specs.Look.{Condition, is_faulty, is_cured, is_correct, Stamped, Shown, Looked, look_in}

-- what a refusal's number is added to, above every result
abbrev pub refused_from : ℕ
refused_from = 2 ^ 24

-- of a refusal, by its published number
abbrev pub refusal_code : ℕ → ℕ
refusal_code number = refused_from + number

-- of an operation that returns a number: Check and Play, of reads; those that fill a lent buffer, of bytes
abbrev pub code_of : Outcome ℕ → ℕ
code_of (refused number) = refusal_code number
code_of (result m) = m

-- an outcome with its result as a number
abbrev pub in_numbers : {A : Type 0} → (A → ℕ) → Outcome A → Outcome ℕ
in_numbers as_number (refused number) = refused number
in_numbers as_number (result x) = result (as_number x)

-- of Judge: 1 for yes, 0 for no
abbrev pub verdict_number : Bool → ℕ
verdict_number true = 1
verdict_number false = 0

abbrev pub verdict_code : Outcome Bool → ℕ
verdict_code o = code_of (in_numbers verdict_number o)

abbrev pub condition_code : Condition → ℕ
condition_code is_faulty = 0
condition_code is_cured = 1
condition_code is_correct = 2

-- what each pair adds to the condition
abbrev pub per_pair : ℕ
per_pair = 4

-- of Look: the condition, and how many pairs there are, whether or not the buffer has room for them
abbrev pub shown_number : Shown → ℕ
shown_number shown = condition_code shown.condition + per_pair * length shown.pairs

abbrev pub shown_code : Outcome Shown → ℕ
shown_code o = code_of (in_numbers shown_number o)

-- the bytes of a pair, in either form: three of the value, the highest first, and the number
abbrev pub pair_size : ℕ
pair_size = 4

-- the values in the places of an array have three bytes
abbrev pub ThreeBytes : List (Option Pair) → Type 0
ThreeBytes places = (q : ℕ) → IfSome (get_or places q None) (λ p. p.value < 2 ^ most_width)

unfoldable pub pair_bytes : List Stamped → List ℕ
pair_bytes [] = []
pair_bytes (p ∷ ps) = p.value / 256 / 256 ∷ p.value / 256 % 256 ∷ p.value % 256 ∷ p.number ∷ pair_bytes ps

-- a buffer with as many whole pairs at its start as fit it, the bytes behind them as they were
unfoldable pub pairs_over : List Stamped → List ℕ → List ℕ
pairs_over pairs buffer =
    let written : List ℕ = pair_bytes (take (length buffer / pair_size) pairs) in
    written ++ drop (length written) buffer

-- the pairs that are shown; a refusal shows none
abbrev pub shown_pairs : Outcome Shown → List Stamped
shown_pairs (refused number) = []
shown_pairs (result shown) = shown.pairs

-- What Look returns as a number, and both lent buffers afterwards.
pub record Coded : Type 0 where
  pub code : ℕ
  pub workspace : List ℕ
  pub pairs : List ℕ

abbrev pub coded_in : List ℕ → Looked → Coded
coded_in pairs x = record { code = shown_code x.outcome; workspace = x.workspace; pairs = pairs_over (shown_pairs x.outcome) pairs }

-- Look in a form
abbrev pub look_coded : ℕ → List ℕ → List ℕ → ℕ → ℕ → List ℕ → Coded
look_coded form plan workspace server tick pairs = coded_in pairs (look_in form plan workspace server tick)
