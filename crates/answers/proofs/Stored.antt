-- An answer as it is written, over bytes of which the first are zero.
-- It stands on the laws of the writer and of stamped values.
use mathlib.Core.Path.{◌≡◌, refl, ◌∙◌}
use mathlib.Core.List.{List, [], ◌∷◌, ◌++◌}
use Prim.Native.Nat.{ℕ, ◌^◌, ◌≤◌, ◌<◌}
use native.Mathlib.Omega.{arith}
use lib.ListN.{length, take, drop, length-append, length-drop}
use lib.Seq.{drop_at, length-take-le}
use Rattle.bits.specs.Field.{Bytes}
use Rattle.bits.specs.Fill.{fill}
use Rattle.bits.specs.Layout.{bits_of, packed_bits}
use Rattle.bits.specs.Writing.{Wrote}
use Rattle.bits.proofs.Packing.{packed_small, packed_length}
use Rattle.bits.proofs.Started.{wrote_filled}
use Rattle.register.specs.Plan.{Read, stamped}
use Rattle.register.proofs.Stamped.{value_stamped, number_stamped}
use Rattle.register.specs.Reading.{Answer}
use Rattle.answers.specs.Answers.{answer_widths, answer_bits, answer_size, answer_with, answer_bytes}

module _ (w begun reader value number count : ℕ) (small : value < 2 ^ w) where
  abbrev read : Read
  read = record { begun = begun; reader = reader }

  abbrev answer : Answer
  answer = record { pair = stamped w value number; count = count }

  numbers-are : answer_with w read answer ≡ begun ∷ reader ∷ value ∷ number ∷ count ∷ 0 ∷ []
  numbers-are = rw (value_stamped w value number small, number_stamped w value number small)

  abbrev bits : List ℕ
  bits = packed_bits (answer_widths w) (begun ∷ reader ∷ value ∷ number ∷ count ∷ 0 ∷ [])

  -- its fields are written, and zeros that fill the last byte
  pub stored : (l a b c : List ℕ) (end : ℕ) → drop (answer_size w) a ≡ drop (answer_size w) l → end ≡ answer_bits w → Wrote a b 0 bits → Wrote b c end (bits_of (fill 8 end) 0) → Bytes a → Bytes c → answer_size w ≤ length a
      → c ≡ answer_bytes w read answer ++ drop (answer_size w) l
  unfolding answer_bytes
  stored l a b c end same e W Z f g room =
      let size : length bits ≡ answer_bits w = packed_length (answer_widths w) (begun ∷ reader ∷ value ∷ number ∷ count ∷ 0 ∷ []) refl in
      let small = packed_small (answer_widths w) (begun ∷ reader ∷ value ∷ number ∷ count ∷ 0 ∷ []) in
      rw (← same, numbers-are, ← size) (wrote_filled bits small W (rw (size, ← e) Z) f g (rw size room))

-- bytes of which the first n are written over
module _ (n : ℕ) (first l : List ℕ) (same : length first ≡ length (take n l)) (room : n ≤ length l) where
  first_length : length first ≡ n
  first_length = same ∙ length-take-le n l room

  pub over_length : length (first ++ drop n l) ≡ length l
  over_length = rw (length-append, length-drop) (omega (arith, first_length))

  pub over_rest : drop n (first ++ drop n l) ≡ drop n l
  over_rest = drop_at first (drop n l) n first_length
