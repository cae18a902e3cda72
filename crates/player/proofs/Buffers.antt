-- The lent buffers: the loop's turn over the answer buffer, and the zeroed workspace.
-- It stands on the lengths of the answers.
use mathlib.Core.Path.{◌≡◌, refl, sym, ap, ◌∙◌}
use mathlib.Core.List.{List, [], ◌∷◌, ◌++◌, append_assoc, append-nil}
use Prim.Native.Nat.{ℕ, ◌+◌, ◌*◌, ◌-◌, ◌≤◌, ◌<◌}
use native.Mathlib.Numerals.{add-one}
use native.Mathlib.Omega.{arith}
use lib.ListN.{length, get_or, take, drop, length-drop, replicate}
use lib.Seq.{take-suc, take_at, drop-drop, drop-append-add, length-take-le, ext_get_or, get_or-drop}
use Rattle.register.specs.Plan.{Plan, Read}
use Rattle.register.specs.Reading.{answer_of}
use Rattle.answers.specs.Answers.{answer_size, answer_bytes, answers_for}
use Rattle.reading.specs.Reading.{placed_at}
use Rattle.answers.specs.Workspace.{workspace_size, zeroed}
use Rattle.answers.proofs.Lengths.{answers_length}

mul_suc : (size i : ℕ) → size * (i + 1) ≡ size * i + size
mul_suc size i = omega arith

drop_past : (p q : List ℕ) (n k : ℕ) → length p ≡ n → drop (n + k) (p ++ q) ≡ drop k q
drop_past p q n k e = rw (← e) (drop-append-add p q k)

module _ (w : ℕ) (P : Plan) where
  all_append : (rs qs : List Read) → answers_for w P (rs ++ qs) ≡ answers_for w P rs ++ answers_for w P qs
  unfolding answers_for
  all_append [] qs = refl
  all_append (r ∷ rs) qs = rw (append_assoc, all_append rs qs)

  all_one : (r : Read) → answers_for w P (r ∷ []) ≡ answer_bytes w r (answer_of P r)
  unfolding answers_for
  all_one r = append-nil (answer_bytes w r (answer_of P r))

  -- with i answers written, one more is placed at its own bytes
  pub answers_more : (rs : List Read) (b buffer : List ℕ) (i : ℕ) (d : Read) → i < length rs → buffer ≡ answers_for w P (take i rs) ++ drop (answer_size w * i) b
      → placed_at w i (answer_bytes w (get_or rs i d) (answer_of P (get_or rs i d))) buffer ≡ answers_for w P (take (i + 1) rs) ++ drop (answer_size w * (i + 1)) b
  answers_more rs b buffer i d h is =
      let size = answer_size w in
      let p = answers_for w P (take i rs) in
      let q = drop (size * i) b in
      let n : length p ≡ size * i = rw (answers_length w P, length-take-le i rs (omega arith)) in
      let k : size * (i + 1) ≡ size * i + size = mul_suc size i in
      let e : drop (size * i + size) (p ++ q) ≡ drop (size * i + size) b = drop_past p q (size * i) size n ∙ drop-drop size (size * i) b in
      rw (is, take_at p q (size * i) n, drop-drop, e, k, add-one, take-suc rs i d h, all_append, all_one) (sym (append_assoc p _ _))

-- zeroing forgets what was written below byte 60,000
pub zeroed_same : (a b : List ℕ) → length b ≡ length a → ((p : ℕ) → workspace_size ≤ p → get_or b p 0 ≡ get_or a p 0) → zeroed b ≡ zeroed a
unfolding zeroed
zeroed_same a b size same =
    ap (λ (l : List ℕ). replicate workspace_size 0 ++ l) (ext_get_or 0 (drop workspace_size b) (drop workspace_size a)
    (length-drop workspace_size b ∙ ap (λ (k : ℕ). k - workspace_size) size ∙ sym (length-drop workspace_size a))
    (λ i l. get_or-drop workspace_size b i 0 ∙ same (workspace_size + i) (omega arith) ∙ sym (get_or-drop workspace_size a i 0)))
