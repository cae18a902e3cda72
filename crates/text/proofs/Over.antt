-- A text stored from a buffer's start on: as much of it as fits, and the rest of the buffer as it was; a buffer that is long enough has it whole.
-- It stands on the definitions alone.
use mathlib.Core.Path.{◌≡◌, refl, ap, ◌∙◌}
use mathlib.Core.List.{List, [], ◌∷◌, ◌++◌}
use Prim.Native.Nat.{ℕ, suc, ◌≤◌}
use native.Mathlib.Nat.{zero-add}
use lib.ListN.{length, take, drop, set}
use lib.Seq.{sets as stored_at, take_all, take_at}
use Rattle.decimal.specs.Stored.{Stored}
use Rattle.lines.specs.Text.{written_over}

stored_nil : (i : ℕ) (t : List ℕ) → stored_at {A = ℕ} [] i t ≡ []
stored_nil i [] = refl
stored_nil i (x ∷ t) = stored_nil (suc i) t

stored_cons : (x : ℕ) (l : List ℕ) (i : ℕ) (t : List ℕ) → stored_at (x ∷ l) (suc i) t ≡ x ∷ stored_at l i t
stored_cons x l i [] = refl
stored_cons x l i (y ∷ t) = stored_cons x (set l i y) (suc i) t

over_is : (t l : List ℕ) → stored_at l 0 t ≡ take (length l) t ++ drop (length t) l
over_is [] [] = refl
over_is [] (x ∷ l) = refl
over_is (y ∷ t) [] = stored_nil 1 t
over_is (y ∷ t) (x ∷ l) = stored_cons y l 0 t ∙ ap (λ (r : List ℕ). y ∷ r) (over_is t l)

pub stored_over : {t l o : List ℕ} {r : ℕ} → Stored l 0 t o r → record { size = r; bytes = o } ≡ written_over t l
unfolding written_over
stored_over {t} {l} S = rw (S.next_is, S.bytes_are, over_is t l, zero-add)

-- a buffer as long as the text has all of it
pub whole : (t l : List ℕ) → length t ≤ length l → take (length t) (written_over t l).bytes ≡ t
unfolding written_over
whole t l h = rw (take_all (length l) t h) (take_at t _ (length t) refl)
