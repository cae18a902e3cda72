-- Whether numbers fit, found one by one: those that are left, by field and by record.
-- It stands on the laws of records one behind the other.
use mathlib.Core.Path.{◌≡◌, ◌∙◌, ap, sym}
use mathlib.Core.Bool.{true, false, ◌&&◌}
use mathlib.Core.List.{List, ◌∷◌, ◌++◌}
use Prim.Native.Nat.{ℕ, suc, ◌+◌, ◌*◌, ◌-◌, ◌^◌, ◌≤◌, ◌<◌}
use native.Mathlib.Omega.{arith}
use lib.Dec.{ltb}
use lib.ListN.{length, get_or, take, drop, drop_of_length-le, take-append-drop}
use lib.Seq.{drop-cons, drop-drop, length-take-le}
use Rattle.bits.specs.Layout.{records, fits}
use Rattle.bits.proofs.Records.{records_suc, fits_append}
use Rattle.packing.proofs.Turns.{numbers_there}

module _ (vs xs : List ℕ) (room : length vs ≤ length xs) where
  -- the numbers of the record from field j on
  abbrev pub left : ℕ → List ℕ
  left j = take (length vs - j) (drop j xs)

  next : (j : ℕ) → j < length vs → left j ≡ get_or xs j 0 ∷ left (suc j)
  next j l =
      let e : length vs - j ≡ suc (length vs - suc j) = omega arith in
      rw (e, drop-cons xs j 0 (omega arith))

  module _ (j : ℕ) (l : j < length vs) where
    fits_next : fits (drop j vs) (left j) ≡ ltb (get_or xs j 0) (2 ^ get_or vs j 0) && fits (drop (suc j) vs) (left (suc j))
    unfolding fits
    fits_next = rw (drop-cons vs j 0 l, next j l)

    pub fits_more : ltb (get_or xs j 0) (2 ^ get_or vs j 0) ≡ true → fits (drop j vs) (left j) ≡ fits (drop (suc j) vs) (left (suc j))
    fits_more e = fits_next ∙ rw e

    pub fits_stop : ltb (get_or xs j 0) (2 ^ get_or vs j 0) ≡ false → fits (drop j vs) (left j) ≡ false
    fits_stop e = fits_next ∙ rw e

  pub fits_end : (j : ℕ) → length vs ≤ j → fits (drop j vs) (left j) ≡ true
  unfolding fits
  fits_end j l =
      let z : length vs - j ≡ 0 = omega arith in
      rw (drop_of_length-le vs l, z)

module _ (vs xs : List ℕ) (count : ℕ) (size : length xs ≡ length vs * count) where
  -- the numbers of the records from record i on
  abbrev pub behind : ℕ → List ℕ
  behind i = drop (length vs * i) xs

  module _ (i : ℕ) (l : i < count) where
    record-next : fits (records (count - i) vs) (behind i) ≡ fits vs (take (length vs) (behind i)) && fits (records (count - suc i) vs) (behind (suc i))
    record-next =
        let e : count - i ≡ suc (count - suc i) = omega arith in
        let n : length vs * i + length vs ≡ length vs * suc i = omega arith in
        let d : drop (length vs) (behind i) ≡ behind (suc i) = drop-drop (length vs) (length vs * i) xs ∙ ap (λ (j : ℕ). drop j xs) n in
        rw (e, records_suc)
        (ap (λ (l : List ℕ). fits (vs ++ records (count - suc i) vs) l) (sym (take-append-drop (length vs) (behind i)))
        ∙ fits_append (records (count - suc i) vs) (drop (length vs) (behind i)) vs (take (length vs) (behind i)) (length-take-le (length vs) (behind i) (numbers_there vs xs count size i l))
        ∙ rw d)

    pub record_more : fits vs (take (length vs) (behind i)) ≡ true → fits (records (count - i) vs) (behind i) ≡ fits (records (count - suc i) vs) (behind (suc i))
    record_more e = record-next ∙ rw e

    pub record_stop : fits vs (take (length vs) (behind i)) ≡ false → fits (records (count - i) vs) (behind i) ≡ false
    record_stop e = record-next ∙ rw e

  pub record_end : (i : ℕ) → i ≡ count → fits (records (count - i) vs) (behind i) ≡ true
  unfolding records fits
  record_end i e =
      let z : count - count ≡ 0 = omega arith in
      rw (e, z, drop_of_length-le xs {i = length vs * count} (omega arith))
