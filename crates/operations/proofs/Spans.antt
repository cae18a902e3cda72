-- The table of open reads: places 128 x + tick, marked one read at a time.
-- It stands on the definition of a span.
use mathlib.Core.Path.{◌≡◌, ap, ◌∙◌}
use mathlib.Core.Bool.{Bool, true, false, and-false}
use mathlib.Core.List.{List}
use Prim.Native.Nat.{ℕ, ◌+◌, ◌*◌, ◌-◌, ◌<◌, ◌≤◌}
use native.Mathlib.Decide.{ℕ_discrete, dec_le}
use native.Mathlib.Numerals.{add-one}
use native.Mathlib.Omega.{arith}
use lib.Dec.{leb, eqb}
use lib.ListN.{length, replicate, get_or, take, drop, get_or-append}
use borrow.Rule.Slice.PartMut.{put_mid, mid_of}
use Rattle.std.proofs.lemmas.List.{length-take, length-drop, length-replicate, get_or-take, get_or-drop, get_or-replicate, get_or-append_right}
use borrow.Author.Tests.{eq-eqb, ne_eqb, lt-ltb, le-ltb, le-leb, lt-leb}
use Rattle.register.specs.Lists.{any_up_to}
use Rattle.register.proofs.Lists.{get_d_replicate_same}
use Rattle.plan.specs.Header.{Header, operation_at}
use Rattle.plan.specs.declared.operations.Operation.{Operation}
use Rattle.plan.specs.Steps.{IsOperation}
use Rattle.operations.specs.Reads.{spans, Marked, open_among, Opened}
use Rattle.operations.proofs.Passed.{operation_is}

spans_in : (from to x y u : ℕ) → x ≡ y → from ≤ u → u < to → spans from to x y u ≡ true
unfolding spans
spans_in from to x y u e l m = rw (eq-eqb x y e, le-leb from u l, lt-ltb u to m)

spans_out : (from to x y u : ℕ) → (x ≡ y → from ≤ u → u < to → ⊥) → spans from to x y u ≡ false
unfolding spans
spans_out from to x y u d = elim (ℕ_discrete x y) [
  | no n ↦ rw (ne_eqb x y n)
  | yes e ↦
      elim (dec_le from u) [
        | no n ↦ rw (lt-leb from u (omega arith), and-false (eqb x y))
        | yes l ↦ elim (dec_le to u) [ yes m ↦ rw (le-ltb u to m, and-false (leb from u), and-false (eqb x y)) | no n ↦ absurd (d e l (omega arith)) ]
      ]
]

-- a list with n places from a on filled
module _ (l : List Bool) (a n : ℕ) (inside : a + n ≤ length l) where
  abbrev filled : List Bool
  filled = put_mid a n l (replicate n true)

  first : length (take a l) ≡ a
  first = omega (arith, length-take a l)

  filled_before : (i : ℕ) → i < a → get_or filled i false ≡ get_or l i false
  filled_before i h = get_or-append (take a l) _ false i (omega (arith, first)) ∙ get_or-take a l i false h

  filled_in : (i : ℕ) → a ≤ i → i < a + n → get_or filled i false ≡ true
  filled_in i h m =
      get_or-append_right (take a l) _ a i false first h
      ∙ get_or-append (replicate n true) _ false (i - a) (omega (arith, length-replicate n true))
      ∙ get_or-replicate n (i - a) true false (omega arith)

  filled_behind : (i : ℕ) → a + n ≤ i → get_or filled i false ≡ get_or l i false
  filled_behind i h =
      let e : a + (n + (i - a - n)) ≡ i = omega arith in
      get_or-append_right (take a l) _ a i false first (omega arith)
      ∙ get_or-append_right (replicate n true) _ n (i - a) false (length-replicate n true) (omega arith)
      ∙ get_or-drop n (drop a l) (i - a - n) false
      ∙ get_or-drop a l (n + (i - a - n)) false
      ∙ ap (λ j. get_or l j false) e

-- the span of reader x, filled
pub marked_filled : (l ys : List Bool) (x from to n : ℕ) → x < 8 → from ≤ to → to ≤ 128 → length l ≡ 1024 → n ≡ to - from
    → ys ≡ replicate (length (mid_of (128 * x + from) n l)) true → Marked (put_mid (128 * x + from) n l ys) l x from to
marked_filled l ys x from to n few order short long part full y t h =
    let a : ℕ = 128 * x + from in
    let inside : a + n ≤ length l = omega arith in
    let all : length (mid_of a n l) ≡ n = omega (arith, length-take n (drop a l), length-drop a l) in
    rw (full, all)
    (elim (dec_le a (128 * y + t)) [
      | no d ↦ rw (filled_before l a n inside (128 * y + t) (omega arith), spans_out from to x y t (λ e f g. omega arith))
      | yes p ↦
          elim (dec_le (a + n) (128 * y + t)) [
            | yes q ↦ rw (filled_behind l a n inside (128 * y + t) q, spans_out from to x y t (λ e f g. omega arith))
            | no d ↦ rw (filled_in l a n inside (128 * y + t) p (omega arith), spans_in from to x y t (omega arith) (omega arith) (omega arith))
          ]
    ])

module _ (w : ℕ) (s : List ℕ) (h : Header) where
  pub opened_none : (k : ℕ) → Opened w s h 0 (replicate k false)
  unfolding open_among any_up_to
  opened_none k x t l = get_d_replicate_same k (128 * x + t) false

  module _ (i : ℕ) (o : Operation) (is : IsOperation w s (operation_at w h i) o) where
    -- a write opens nothing
    pub opened_write : (l : List Bool) → o.party ≡ 0 → Opened w s h i l → Opened w s h (i + 1) l
    unfolding open_among any_up_to
    opened_write l e p x t u = rw (add-one i, operation_is w s h i o is, e) (p x t u)

    -- a read is marked
    pub opened_read : (l k : List Bool) → (o.party ≡ 0 → ⊥) → Marked l k o.party o.at (o.at + 2 * h.delta) → Opened w s h i k
        → Opened w s h (i + 1) l
    unfolding open_among any_up_to
    opened_read l k d m p x t u = rw (add-one i, operation_is w s h i o is, ne_eqb o.party 0 d, m x t u, p x t u)
