-- An input with more bytes than any header implies is refused by its header alone: 2, 3 or 4. So are its first bytes.
-- It stands on the ranges of the header.
use mathlib.Core.Path.{◌≡◌, refl, sym, ap, ◌∙◌}
use mathlib.Core.Bool.{Bool, true, false}
use mathlib.Core.List.{List, ◌++◌}
use Prim.Native.Nat.{ℕ, ◌+◌, ◌*◌, ◌≤◌, ◌<◌}
use native.Mathlib.Omega.{arith}
use lib.ListN.{length, take, drop, take-append-drop}
use lib.Seq.{length-take-le}
use borrow.Author.Tests.{le-leb, ne_eqb}
use Rattle.bits.proofs.Joined.{numbers_left}
use Rattle.bits.specs.Fill.{bytes_for}
use Rattle.plan.specs.Form.{most_width}
use Rattle.plan.specs.Widths.{header_widths}
use Rattle.plan.specs.Header.{Header, header_from, header_of, header_bits, bit_length}
use Rattle.plan.specs.Limits.{implied_bytes}
use Rattle.plan.specs.Check.{Outcome, refused, unless, check_of, header_in_range, enough_servers}
use Rattle.plan.proofs.Ranges.{ranged_header}
use Rattle.plan.proofs.Sizes.{implied_few}

-- what a header says of an input that is too long
abbrev refused_by : Header → Outcome ℕ
refused_by h = unless (header_in_range h) 2 (unless (enough_servers h) 3 (refused 4))

unless_same : (b : Bool) (number : ℕ) (x y : Outcome ℕ) → (b ≡ true → x ≡ y) → unless b number x ≡ unless b number y
unless_same true number x y f = f refl
unless_same false number x y f = refl

module _ (w : ℕ) (narrow : w ≤ most_width) where
  -- a header of values that are no wider is no longer
  header-short : bytes_for (header_bits w) ≤ bytes_for (header_bits most_width)
  header-short = omega arith

  refused-by : (s : List ℕ) → implied_bytes < length s → check_of w s ≡ refused_by (header_of w s)
  unfolding check_of
  refused-by s l =
      let h = header_of w s in
      rw (le-leb (bytes_for (header_bits w)) (length s) (omega (arith, header-short)))
      (unless_same (header_in_range h) 2 _ _ (λ e.
      let few = implied_few w h (ranged_header w s e) narrow in
      rw (ne_eqb (length s) (bytes_for (bit_length w h)) (λ q. omega arith)) refl))

  -- the header is in the first bytes
  header-first : (a b : List ℕ) → header_bits w ≤ 8 * length a → header_of w (a ++ b) ≡ header_of w a
  unfolding header_of
  header-first a b l = ap header_from (numbers_left (header_widths w) a b 0 (omega arith))

  -- so no more than that needs to be read
  pub too_long : (s : List ℕ) → implied_bytes < length s → check_of w s ≡ check_of w (take (implied_bytes + 1) s)
  too_long s l =
      let a = take (implied_bytes + 1) s in
      let n : length a ≡ implied_bytes + 1 = length-take-le (implied_bytes + 1) s (omega arith) in
      let whole : a ++ drop (implied_bytes + 1) s ≡ s = take-append-drop (implied_bytes + 1) s in
      let same : header_of w s ≡ header_of w a = ap (header_of w) (sym whole) ∙ header-first a (drop (implied_bytes + 1) s) (omega arith) in
      refused-by s l ∙ ap refused_by same ∙ sym (refused-by a (omega arith))
