-- Taking in only the pairs of a span: those below it and beyond it do not pass.
use mathlib.Core.Path.{◌≡◌, refl, sym, ◌∙◌}
use mathlib.Core.Bool.{Bool, false, ◌&&◌, and-false}
use mathlib.Core.List.{List}
use Prim.Native.Nat.{ℕ, zero, suc, ◌≤◌, ◌<◌}
use native.Mathlib.Omega.{arith}
use native.Mathlib.Decide.{ℕ_discrete, dec_le}
use lib.Dec.{leb}
use borrow.Author.Tests.{le-ltb, lt-leb}
use Rattle.serving.specs.Stages.{in_span, taken}

-- pairs from one on that do not pass
pub taken_past : (c : ℕ → Bool) (n m : ℕ) (l : List ℕ) → n ≤ m → ((j : ℕ) → n ≤ j → j < m → c j ≡ false) → taken c m l ≡ taken c n l
unfolding taken
taken_past c zero zero l h e = refl
taken_past c (suc n) zero l h e = absurd (omega arith)
taken_past c n (suc m) l h e = elim (ℕ_discrete n (suc m)) [
  | yes d ↦ rw d
  | no d ↦ rw (e m (omega arith) (omega arith)) (taken_past c n m l (omega arith) (λ j a b. e j a (omega arith)))
]

module _ (v : ℕ → Bool) (low high : ℕ) where
  -- no pair below the span
  pub taken_below : (n : ℕ) (l : List ℕ) → n ≤ low → taken (λ j. in_span low high j && v j) n l ≡ l
  unfolding taken
  taken_below n l h = taken_past (λ j. in_span low high j && v j) 0 n l (omega arith) (λ j a b. rw (lt-leb low j (omega arith)))

  -- none beyond it, where a walk over the span has come to n
  pub taken_stop : (n m : ℕ) (l : List ℕ) → (n < m → high ≤ n) → (m < n → n ≤ low) → taken (λ j. in_span low high j && v j) n l ≡ taken (λ j. in_span low high j && v j) m l
  taken_stop n m l e f = elim (dec_le n m) [
    | yes d ↦ sym (taken_past (λ j. in_span low high j && v j) n m l d (λ j a b. rw (le-ltb j high (omega (arith, e (omega arith))), and-false (leb low j))))
    | no d ↦ taken_below n l (f (omega arith)) ∙ sym (taken_below m l (omega (arith, f (omega arith))))
  ]
