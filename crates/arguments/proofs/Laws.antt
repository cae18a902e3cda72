-- The tests that the code makes are those of the definitions.
-- It stands on the definitions alone.
use mathlib.Core.Path.{◌≡◌, ◌∙◌, refl, ap}
use mathlib.Core.List.{List, [], ◌∷◌, ◌++◌, map}
use Prim.Native.Nat.{ℕ, min, ◌+◌, ◌≤◌, ◌<◌}
use native.Mathlib.Numerals.{add-one}
use native.Mathlib.{Decide.dec_le, Omega.arith}
use lib.Dec.{eqb}
use Rattle.std.specs.Cmp.Lexicographic.{pointwise}
use lib.ListN.{length, get_or, take, drop, length-map, length-take, length-append}
use lib.Seq.{take_all, take-suc}
use Rattle.register.specs.Lists.{same_list}
use Rattle.decimal.specs.Stored.{Stored}
use Rattle.decimal.proofs.Stores.{stored_then, stored_as, stored_first}
use Rattle.arguments.specs.declared.Fault.{Fault}
use Rattle.arguments.specs.declared.Fault.TheVariants.{UnknownOption, TooMany}
use Rattle.arguments.specs.Arguments.{shown_byte, most_name, shown_name, program, unknown_option, see_help, fault_of, fault_line, failure_line}

-- the library's test for equal words
pub same_word : (a b : List ℕ) → same_list a b ≡ pointwise eqb a b
unfolding same_list
same_word [] [] = refl
same_word [] (y ∷ b) = refl
same_word (x ∷ a) [] = refl
same_word (x ∷ a) (y ∷ b) = rw (same_word a b)

-- One byte more of a name is shown.
shown_append : (a b : List ℕ) → map shown_byte (a ++ b) ≡ map shown_byte a ++ map shown_byte b
shown_append [] b = refl
shown_append (x ∷ a) b = rw (shown_append a b)

pub shown_more : {l m o : List ℕ} {at i y b : ℕ} (name : List ℕ) → i < length name → Stored l at (map shown_byte (take i name)) m (at + i)
    → b ≡ shown_byte (get_or name i 0) → Stored m (at + i) (b ∷ []) o y → Stored l at (map shown_byte (take (i + 1) name)) o (at + (i + 1))
shown_more {l} {m} {o} {at} {i} {y} {b} name h S e U =
    let f : y ≡ at + (i + 1) = omega (arith, U.next_is) in
    rw (add-one i, take-suc name i 0 h, shown_append, ← e, ← add-one i, ← f) (stored_then S U)

-- all that is shown of it
first-shown : (name : List ℕ) (m : ℕ) → m ≡ min (length name) most_name → take m name ≡ take most_name name
first-shown name m e = elim (dec_le (length name) most_name) [
  | yes h ↦ (let n : m ≡ length name = omega arith in rw (n, take_all (length name) name (omega arith), take_all most_name name h))
  | no h ↦ (let n : m ≡ most_name = omega arith in rw n)
]

pub shown_whole : {l o : List ℕ} {at i : ℕ} (name : List ℕ) (m : ℕ) → m ≡ min (length name) most_name → length (take m name) ≤ i
    → Stored l at (map shown_byte (take i (take m name))) o (at + i) → Stored l at (shown_name name) o (at + i)
unfolding shown_name
shown_whole {l} {o} {at} {i} name m e h S = stored_as (ap (λ (t : List ℕ). map shown_byte t) (take_all i (take m name) h ∙ first-shown name m e)) S

-- The lines are short.
shown_short : (name : List ℕ) → length (shown_name name) ≤ most_name
unfolding shown_name
shown_short name = rw (length-map (take most_name name) shown_byte) (omega (arith, length-take most_name name))

pub fault_short : (fault : Fault) (word : List ℕ) → length (fault_of fault word) ≤ 15 + most_name
unfolding fault_of
fault_short UnknownOption word = omega (arith, length-append unknown_option (shown_name word), shown_short word)
fault_short TooMany word = omega arith

pub fault_fits : (fault : Fault) (word : List ℕ) → length (fault_line fault word) ≤ most_name + 64
unfolding fault_line
fault_fits fault word = omega (arith, length-append program (fault_of fault word ++ see_help), length-append (fault_of fault word) see_help, fault_short fault word)

pub failure_fits : (name : List ℕ) → length (failure_line name) ≤ most_name + 64
unfolding failure_line
failure_fits name = omega (arith, length-append program (shown_name name), shown_short name)

-- a line that fits the buffer stands whole at its start
take_first : (a b : List ℕ) → take (length a) (a ++ b) ≡ a
take_first [] b = refl
take_first (x ∷ a) b = rw (take_first a b)

pub whole_line : {l a o : List ℕ} {y : ℕ} → length a ≤ length l → Stored l 0 a o y → take y o ≡ a
whole_line {l} {a} {o} {y} h S =
    let e : y ≡ length a = omega (arith, S.next_is) in
    rw (e, stored_first h S) (take_first a (drop (length a) l))
