-- The requests that reach a server: sets gathered member by member, and what it means that none does.
-- It stands on the laws of sets.
use mathlib.Core.{Path.◌≡◌, Path.sym, Path.◌∙◌, List.List}
use mathlib.Core.Bool.{Bool, true, false, ◌&&◌, and-false, and-true, or_comm, or-false, not-eq-not, true≢false}
use Prim.Native.Nat.{ℕ, zero, suc, ◌+◌, ◌*◌, ◌%◌, ◌^◌, ◌<◌}
use native.Mathlib.{Omega.arith, Decide.dec_le, Decide.ℕ_discrete}
use lib.{Bits.bit_or, Dec.eqb, Dec.ltb, ListN.get_or}
use borrow.Author.Tests.{le-ltb, ne_eqb}
use Rattle.bits.proofs.Laws.{one_shl}
use Rattle.register.specs.Lists.{any_up_to}
use Rattle.register.proofs.{Logic.T_eq, Counting.any_up_to_i}
use Rattle.limits.specs.Bits.{bit}
use Rattle.limits.specs.Limits.{no_pair}
use Rattle.calendar.proofs.Laws.{ltb_more}
use Rattle.limits.proofs.Bits.{bit_or_lem, bit_pow, bit_zero}
use Rattle.cluster.specs.Inputs.{requesters, is_asked, wrote_at, asks_at}

-- ---- a set gathered in a loop

-- a set of the numbers below x that pass a test, and x
module _ (g : ℕ → Bool) (r x : ℕ) (S : (k : ℕ) → bit k r ≡ ltb k x && g k) where
  pub set_more : x < 8 → g x ≡ true → (k : ℕ) → bit k (bit_or r (1 * 2 ^ x % 256)) ≡ ltb k (x + 1) && g k
  set_more h e k = rw (one_shl x 8 h, bit_or_lem k r (2 ^ x), bit_pow k x, S k, ← ltb_more k x (g k)) (elim (ℕ_discrete k x) [ yes z ↦ rw (z, e, and-true (eqb x x)) | no z ↦ rw (ne_eqb k x z) ])

  pub set_same : g x ≡ false → (k : ℕ) → bit k r ≡ ltb k (x + 1) && g k
  set_same e k = rw (S k, ← ltb_more k x (g k)) (elim (ℕ_discrete k x) [ yes z ↦ rw (z, e, and-false (ltb x x), and-false (eqb x x)) | no z ↦ rw (ne_eqb k x z) (sym (or-false (ltb k x && g k))) ])

-- of the numbers below 1 none is over 0
pub set_none : (g : ℕ → Bool) (k : ℕ) → bit k 0 ≡ ltb k 1 && (ltb 0 k && g k)
set_none g zero = bit_zero 0
set_none g (suc k) = rw (bit_zero (suc k), le-ltb (suc k) 1 (omega arith))

-- ---- all requests together

module _ (requests : List ℕ) where
  pub joined_none : (b : ℕ) → bit b 0 ≡ any_up_to 0 (λ p. bit b (get_or requests p 0))
  unfolding any_up_to
  joined_none b = bit_zero b

  pub joined_more : (r p : ℕ) → ((b : ℕ) → bit b r ≡ any_up_to p (λ q. bit b (get_or requests q 0)))
      → (b : ℕ) → bit b (bit_or r (get_or requests p 0)) ≡ any_up_to (suc p) (λ q. bit b (get_or requests q 0))
  unfolding any_up_to
  joined_more r p J b = bit_or_lem b r (get_or requests p 0) ∙ rw (J b) (or_comm (any_up_to p (λ q. bit b (get_or requests q 0))) (bit b (get_or requests p 0)))

-- ---- no request

module _ (requests : List ℕ) (b : ℕ) (none : is_asked requests b ≡ false) where
  none_from : (p : ℕ) → p < requesters → bit b (get_or requests p 0) ≡ false
  unfolding is_asked
  none_from p l = (not-eq-not {b = false}).0 (λ e. true≢false (sym (T_eq _ (any_up_to_i requesters (λ q. bit b (get_or requests q 0)) p l (rw e tt))) ∙ none))

  pub none_wrote : (number : ℕ) → wrote_at requests number b ≡ no_pair
  unfolding wrote_at
  none_wrote number = rw (none_from 0 (omega arith))

  pub none_asks : (x : ℕ) → asks_at requests b x ≡ false
  unfolding asks_at
  none_asks x = elim (dec_le requesters x) [
    | yes d ↦ rw (le-ltb x requesters d)
    | no d ↦ rw (none_from x (omega arith), and-false (ltb 0 x)) (and-false (ltb x requesters))
  ]
