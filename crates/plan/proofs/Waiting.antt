-- Operations in a row: by party the tick from which the next may begin stands for the test of all earlier ones, and by the last key
-- the order.
-- It stands on the definitions of Check.
use mathlib.Core.Path.{◌≡◌, refl, sym}
use mathlib.Core.Bool.{Bool, true, false, not, ◌&&◌, ◌||◌}
use mathlib.Core.List.{List}
use Prim.Native.Nat.{ℕ, zero, suc, ◌+◌, ◌-◌, ◌<◌, ◌≤◌}
use native.Mathlib.Numerals.{add-one}
use native.Mathlib.Decide.{dec_le}
use native.Mathlib.Omega.{arith}
use lib.Dec.{leb, ltb, eqb, leb-zero, eqb-suc-zero}
use lib.ListN.{length, get_or, set, replicate}
use lib.Seq.{get_or-set_same, get_or-set_other}
use borrow.Author.Tests.{eqb-true, eqb-false, lt-ltb, le-ltb, le-leb}
use Rattle.register.specs.Lists.{all_up_to}
use Rattle.register.proofs.Lists.{get_d_replicate_same}

-- the least key that may follow the first i
unfoldable pub follows : (ℕ → ℕ) → ℕ → ℕ
follows key zero = 0
follows key (suc i) = suc (key i)

pub follows_none : (key : ℕ → ℕ) → 0 ≡ follows key 0
unfolding follows
follows_none key = refl

pub follows_more : (key : ℕ → ℕ) (i : ℕ) → key i + 1 ≡ follows key (i + 1)
unfolding follows
follows_more key i = rw (add-one (key i), add-one i)

-- it decides the order
pub follows_rises : (key : ℕ → ℕ) (i x : ℕ) → eqb i 0 || ltb (key (i - 1)) x ≡ leb (follows key i) x
unfolding follows
follows_rises key zero x = sym (leb-zero x)
follows_rises key (suc i) x = let e : suc i - 1 ≡ i = omega arith in rw (eqb-suc-zero i, e)

-- a later bound decides for an earlier one
later_decides : (a e t : ℕ) → a ≤ e → ltb e t && leb a t ≡ ltb e t
later_decides a e t h = elim (dec_le (suc e) t) [
  | yes l ↦ rw (lt-ltb e t l, le-leb a t (omega arith))
  | no l ↦ rw (le-ltb e t (omega arith))
]

module _ (party end : ℕ → ℕ) where
  -- all of the first i operations of party p end below tick t
  unfoldable pub ended : ℕ → ℕ → ℕ → Bool
  ended i p t = all_up_to i (λ j. not (eqb (party j) p) || ltb (end j) t)

  -- the table says from which tick on a party is free
  abbrev pub Free : ℕ → List ℕ → Type 0
  Free i free = (p t : ℕ) → ended i p t ≡ leb (get_or free p 0) t

  pub free_none : (k : ℕ) → Free 0 (replicate k 0)
  unfolding ended all_up_to
  free_none k p t = rw (get_d_replicate_same {A = ℕ} k p 0) (sym (leb-zero t))

  pub free_more : (i : ℕ) (free : List ℕ) → Free i free → party i < length free → get_or free (party i) 0 ≤ end i
      → Free (i + 1) (set free (party i) (end i + 1))
  unfolding ended all_up_to
  free_more i free h l e p t = rw (add-one i, h p t) (go (eqb (party i) p) refl)
    where
      go : (b : Bool) → eqb (party i) p ≡ b → (not b || ltb (end i) t) && leb (get_or free p 0) t ≡ leb (get_or (set free (party i) (end i + 1)) p 0) t
      go true q =
          let e' : party i ≡ p = eqb-true (party i) p q in
          rw (← e', get_or-set_same free (party i) (end i + 1) 0 l, add-one (end i)) (later_decides (get_or free (party i) 0) (end i) t e)
      go false q = rw (get_or-set_other free (party i) p (end i + 1) 0 (λ x. eqb-false (party i) p q (sym x)))
