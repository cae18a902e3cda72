-- What the program's arguments ask for, and what is said where it cannot be done.
use Rattle.std.specs.Prelude.{Bool, false, cond, List, [], ◌∷◌, ◌++◌, map, ℕ, zero, suc, ltb, eqb, take}
use Rattle.register.specs.Lists.{same_list}
use Rattle.arguments.specs.declared.Source.{Source}
use Rattle.arguments.specs.declared.Source.TheVariants.{Input, Argument, Many}
use Rattle.arguments.specs.declared.Asked.{Asked}
use Rattle.arguments.specs.declared.Asked.TheVariants.{Help, Version, Unknown, Plan}
use Rattle.arguments.specs.declared.Fault.{Fault}
use Rattle.arguments.specs.declared.Fault.TheVariants.{UnknownOption, TooMany}

-- by the number of arguments, the program's own name among them
abbrev pub source_of : ℕ → Source
source_of zero = Input
source_of (suc zero) = Input
source_of (suc (suc zero)) = Argument 1
source_of (suc (suc (suc n))) = Many

-- "--help"
abbrev pub help_word : List ℕ
help_word = 45 ∷ 45 ∷ 104 ∷ 101 ∷ 108 ∷ 112 ∷ []

-- "--version"
abbrev pub version_word : List ℕ
version_word = 45 ∷ 45 ∷ 118 ∷ 101 ∷ 114 ∷ 115 ∷ 105 ∷ 111 ∷ 110 ∷ []

-- does it begin with '-'
abbrev pub is_option : List ℕ → Bool
is_option [] = false
is_option (x ∷ xs) = eqb x 45

unfoldable pub asked_of : List ℕ → Asked
asked_of word = cond (same_list word help_word) Help (cond (same_list word version_word) Version (cond (is_option word) Unknown Plan))

-- A byte of a name as it is shown: '?' for one that is no character of a line.
abbrev pub shown_byte : ℕ → ℕ
shown_byte b = cond (ltb b 32) 63 (cond (eqb b 127) 63 b)

-- as much of a name as is shown: no longer one names a file
abbrev pub most_name : ℕ
most_name = 4096

unfoldable pub shown_name : List ℕ → List ℕ
shown_name name = map shown_byte (take most_name name)

-- "simulate: "
abbrev pub program : List ℕ
program = 115 ∷ 105 ∷ 109 ∷ 117 ∷ 108 ∷ 97 ∷ 116 ∷ 101 ∷ 58 ∷ 32 ∷ []

-- "unknown option "
abbrev pub unknown_option : List ℕ
unknown_option = 117 ∷ 110 ∷ 107 ∷ 110 ∷ 111 ∷ 119 ∷ 110 ∷ 32 ∷ 111 ∷ 112 ∷ 116 ∷ 105 ∷ 111 ∷ 110 ∷ 32 ∷ []

-- "more than one argument"
abbrev pub more_than_one : List ℕ
more_than_one = 109 ∷ 111 ∷ 114 ∷ 101 ∷ 32 ∷ 116 ∷ 104 ∷ 97 ∷ 110 ∷ 32 ∷ 111 ∷ 110 ∷ 101 ∷ 32 ∷ 97 ∷ 114 ∷ 103 ∷ 117 ∷ 109 ∷ 101 ∷ 110 ∷ 116 ∷ []

-- " (see simulate --help)" and the line's end
abbrev pub see_help : List ℕ
see_help = 32 ∷ 40 ∷ 115 ∷ 101 ∷ 101 ∷ 32 ∷ 115 ∷ 105 ∷ 109 ∷ 117 ∷ 108 ∷ 97 ∷ 116 ∷ 101 ∷ 32 ∷ 45 ∷ 45 ∷ 104 ∷ 101 ∷ 108 ∷ 112 ∷ 41 ∷ 10 ∷ []

-- what is wrong with the arguments
unfoldable pub fault_of : Fault → List ℕ → List ℕ
fault_of UnknownOption word = unknown_option ++ shown_name word
fault_of TooMany word = more_than_one

-- the line that says so
unfoldable pub fault_line : Fault → List ℕ → List ℕ
fault_line fault word = program ++ (fault_of fault word ++ see_help)

-- the line of what the system refused, up to the system's reason
unfoldable pub failure_line : List ℕ → List ℕ
failure_line name = program ++ shown_name name
