-- `header::Shape::of` meets its contract: each number fits, by the widths.
use mathlib.Core.Path.{◌≡◌}
use mathlib.Core.Bool.{true}
use mathlib.Core.List.{List}
use Prim.Native.Nat.{ℕ, ◌^◌, ◌<◌}
use native.Mathlib.Nat.{lt_of_lt_of_le}
use lib.Dec.{T, ltb, leb, ltb→lt, leb→le}
use lib.Pow.{pow_mono}
use lib.ListN.{length, get_or}
use borrow.Author.Rules.{rules}
use Rattle.bits.specs.Layout.{fits}
use Rattle.bits.proofs.Packing.{fits_length, fits_at}
use Rattle.plan.specs.Widths.{header_widths}
use Rattle.plan.proofs.header.Shape.of.Goals as goal

-- each field is there, and fits the type that it is cast to
inside : (v : ℕ) (x : List ℕ) → fits (header_widths v) x ≡ true → (i : ℕ) → T (ltb i 10) → i < length x
inside v x h i l = rw (fits_length (header_widths v) x h) (ltb→lt i 10 l)

fitting : (v : ℕ) (x : List ℕ) → fits (header_widths v) x ≡ true → (i : ℕ) → T (ltb i 10) → (w : ℕ) → T (leb (get_or (header_widths v) i 0) w) → get_or x i 0 < 2 ^ w
fitting v x h i l w n = lt_of_lt_of_le (fits_at (header_widths v) x h i (ltb→lt i 10 l)) (pow_mono (leb→le _ _ n))

pub bounds-x-0 : goal.bounds-x-0
bounds-x-0 c = search (rules, inside)

pub overflow_cast-result : goal.overflow_cast-result
overflow_cast-result c = search (rules, fitting)

pub bounds-x-1 : goal.bounds-x-1
bounds-x-1 c = search (rules, inside)

pub overflow_cast-result-2 : goal.overflow_cast-result-2
overflow_cast-result-2 c = search (rules, fitting)

pub bounds-x-2 : goal.bounds-x-2
bounds-x-2 c = search (rules, inside)

pub overflow_cast-result-3 : goal.overflow_cast-result-3
overflow_cast-result-3 c = search (rules, fitting)

pub bounds-x-3 : goal.bounds-x-3
bounds-x-3 c = search (rules, inside)

pub overflow_cast-result-4 : goal.overflow_cast-result-4
overflow_cast-result-4 c = search (rules, fitting)

pub bounds-x-4 : goal.bounds-x-4
bounds-x-4 c = search (rules, inside)

pub overflow_cast-result-5 : goal.overflow_cast-result-5
overflow_cast-result-5 c = search (rules, fitting)

pub bounds-x-5 : goal.bounds-x-5
bounds-x-5 c = search (rules, inside)

pub overflow_cast-result-6 : goal.overflow_cast-result-6
overflow_cast-result-6 c = search (rules, fitting _ _ c.requires 5 tt 8 tt)

pub bounds-x-6 : goal.bounds-x-6
bounds-x-6 c = search (rules, inside)

pub bounds-x-7 : goal.bounds-x-7
bounds-x-7 c = search (rules, inside)

pub overflow_cast-result-7 : goal.overflow_cast-result-7
overflow_cast-result-7 c = search (rules, fitting _ _ c.requires 7 tt 8 tt)

pub bounds-x-8 : goal.bounds-x-8
bounds-x-8 c = search (rules, inside)

pub overflow_cast-result-8 : goal.overflow_cast-result-8
overflow_cast-result-8 c = search (rules, fitting _ _ c.requires 8 tt 16 tt)

pub bounds-x-9 : goal.bounds-x-9
bounds-x-9 c = search (rules, inside)

pub overflow_cast-result-9 : goal.overflow_cast-result-9
overflow_cast-result-9 c = search (rules, fitting _ _ c.requires 9 tt 8 tt)
