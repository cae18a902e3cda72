-- The highest number with a quorum, looked for from the top down, and that it is a known pair's.
use mathlib.Core.Path.{◌≡◌, sym, ◌∙◌}
use mathlib.Core.Bool.{Bool}
use Prim.Native.Nat.{ℕ, zero, suc, ◌≤◌, ◌<◌}
use native.Mathlib.Omega.{arith}
use native.Mathlib.Decide.{dec_le}
use borrow.Author.Tests.{le-leb, lt-leb}
use Rattle.register.specs.Lists.{count}
use Rattle.limits.specs.Limits.{places}
use Rattle.std.specs.Prelude.{Some}
use Rattle.reading.specs.declared.Choice.{Choice}
use Rattle.reading.specs.Choosing.{highest_of}

-- no pair above j has a quorum; pair j has one, or it has none either
module _ (named : ℕ → ℕ → Bool) (reply m j n : ℕ) (above : highest_of named reply m ≡ highest_of named reply (suc j)) (is : n ≡ count (named j) 16) where
  pub highest_here : reply ≤ n → Some (record { number = j; count = n }) ≡ highest_of named reply m
  unfolding highest_of
  highest_here h = sym (above ∙ rw (← is, le-leb reply n h))

  pub highest_below : n < reply → highest_of named reply m ≡ highest_of named reply j
  unfolding highest_of
  highest_below h = above ∙ rw (← is, lt-leb reply n h)

-- what is chosen is one of the known pairs
pub choice_below : (named : ℕ → ℕ → Bool) (reply m : ℕ) → m ≤ places → (c : Choice) → highest_of named reply m ≡ Some c → c.number < places
unfolding highest_of
choice_below named reply zero h c e = cc
choice_below named reply (suc m) h c e = elim (dec_le reply (count (named m) 16)) [
  | yes l ↦ (let d = rw (le-leb reply (count (named m) 16) l) at e in let i : m ≡ c.number = cc in omega arith)
  | no l ↦ choice_below named reply m (omega arith) c (rw (lt-leb reply (count (named m) 16) (omega arith)) at e)
]
